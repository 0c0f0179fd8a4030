-- What working out a row answers. Assumes nothing.
--     Spells from bytes       each byte from a place on is that of a code
--     letter_of k             the stop letter: Sf on ground of class 10 or 11, else Sv
--     FirstOfGround .. place  the stop ground begins with the interval at this place
--     Grounded .. letter place    so it does, and its letter is this
--     Settled .. r after      the row was found and copied and r tells its ground, or no row is lawful
--     Worked .. row           the row is the highest lawful one, and its stop ground and letter are told
--     Unworked .. why         why is the first refusal that is due
use Rattle.std.specs.Prelude.{◌≡◌, ℕ, ◌-◌, ◌<◌, ◌≤◌, cond, List, [], length, Ok, Err, Result, nat_lt, slice_index}
use Rattle.codes.specs.declared.speeds.Speed.{Speed}
use Rattle.codes.specs.declared.speeds.Code.{Code}
use Rattle.codes.specs.declared.gradients.Class.{Class}
use Rattle.codes.specs.declared.refusals.Refusal.{Refusal}
use Rattle.codes.specs.Refusals.{notice}
use Rattle.codes.specs.Speeds.{byte}
use Rattle.codes.specs.Gradients.{number}
use Rattle.laws.specs.Books.{Emergencies, Services}
use Rattle.rules.specs.Tracks.{Track, Mark, begin_of, class_over}
use Rattle.rules.specs.Rules.{train_length, InGround, Lawful}
use Rattle.rules.specs.Rows.{Highest}
use Rattle.rows.specs.declared.targets.Target.{Target}
use Rattle.rows.specs.declared.letters.StopLetter.{StopLetter}
use Rattle.rows.specs.declared.letters.StopLetter.TheVariants.{Sf, Sv}
use Rattle.rows.specs.Drawings.{Drawing, track_drawn}
use Rattle.rows.specs.Targets.{mark_of}
use Rattle.rows.specs.Asking.{Asked, Unasked}
use Rattle.rows.specs.Passing.{codes_of}

abbrev pub Spells : ℕ → List ℕ → Type 0
Spells from bytes = (k : ℕ) → from ≤ k → k < length bytes → (c : Code) × (slice_index bytes k ≡ byte c)

abbrev pub letter_of : Class → StopLetter
letter_of k = cond (nat_lt 9 (number k)) Sf Sv

module _ (track : Track) (mark : Mark) (E : Emergencies) (D : Services) where
  pub record FirstOfGround (place : ℕ) : Type 0 where
    pub inside : InGround track mark E D place
    pub first : (i : ℕ) → InGround track mark E D i → place ≤ i

-- the ground's first interval, and the letter of the ground from a train's length before it to the mark
pub record Grounded (drawing : Drawing) (target : Target) (E : Emergencies) (D : Services) (letter : StopLetter) (place : ℕ) : Type 0 where
  pub first : FirstOfGround (track_drawn drawing) (mark_of target) E D place
  pub tells : letter ≡ letter_of (class_over (track_drawn drawing) (begin_of (track_drawn drawing) place - train_length) target.position)

pub record Worked (drawing : Drawing) (number approach : ℕ) (E : Emergencies) (D : Services) (bytes : List ℕ) (letter : StopLetter) (place : ℕ) : Type 0 where
  pub target : Target
  pub speed : Speed
  pub asked : Asked drawing number approach target speed
  pub spelt : Spells 0 bytes
  pub highest : Highest (track_drawn drawing) (mark_of target) E D speed (codes_of bytes)
  pub ground : Grounded drawing target E D letter place

-- the refusals by what is asked for, and 13 exactly where no row is lawful
pub data Unworked (drawing : Drawing) (mark_number approach : ℕ) (E : Emergencies) (D : Services) (bytes : List ℕ) : ℕ × List ℕ → Type 0 where
  unasked : (why : ℕ × List ℕ) → Unasked drawing mark_number approach (length bytes) why → Unworked drawing mark_number approach E D bytes why
  none : (target : Target) (speed : Speed) → Asked drawing mark_number approach target speed → length bytes ≡ target.held.interval → ((row : List Code) → Lawful (track_drawn drawing) (mark_of target) E D speed row → ⊥) → Unworked drawing mark_number approach E D bytes (13, [])

-- no row is lawful, and the bytes are as they were
pub record Unsettled (drawing : Drawing) (target : Target) (E : Emergencies) (D : Services) (approach : Speed) (before : List ℕ) (why : Refusal) (after : List ℕ) : Type 0 where
  pub refused : notice why ≡ (13, [])
  pub none : (row : List Code) → Lawful (track_drawn drawing) (mark_of target) E D approach row → ⊥
  pub same : after ≡ before

-- the highest row was found and copied, and its stop ground is told; or no row is lawful
abbrev pub Settled : Drawing → Target → Emergencies → Services → Speed → List ℕ → Result (StopLetter × ℕ) Refusal → List ℕ → Type 0
Settled drawing target E D approach before (Ok told) after = Highest (track_drawn drawing) (mark_of target) E D approach (codes_of after) × Spells 0 after × Grounded drawing target E D told.0 told.1
Settled drawing target E D approach before (Err why) after = Unsettled drawing target E D approach before why after
