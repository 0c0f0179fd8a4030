-- The five rules for the code of an interval, the stop ground, and the lawful rows. Assumes nothing.
--     Down E k c to metres    from code c a train is down to code `to` within so many metres of class k
--     Halts distance c metres    if c is a speed, its distance is at most so many metres
--     Rule                  one of the five; rules is the order in which they are tried
--     Obeys j c w rule      interval j with code c, before an interval with code w, obeys the rule
--     Stops j               stop is the highest code that obeys rules 1 to 4 in interval j
--     InGround j            interval j lies in the stop ground
--     BeforeGround j        interval j lies before the stop ground
--     Allowed j c w         interval j may have code c before one with code w
--     Lawful approach row   every interval from the approach to the mark's obeys all five rules
use Rattle.std.specs.Prelude.{◌≡◌, ℕ, zero, suc, ◌+◌, ◌-◌, ◌<◌, ◌≤◌, ◌⊎◌, List, [], ◌∷◌, length, slice_index_or}
use Rattle.std.specs.List.{AllByRecursion}
use Rattle.codes.specs.declared.speeds.Speed.{Speed}
use Rattle.codes.specs.declared.speeds.Code.{Code}
use Rattle.codes.specs.declared.speeds.Code.TheVariants.{Stop, Go}
use Rattle.codes.specs.declared.gradients.Class.{Class}
use Rattle.codes.specs.Speeds.{kmh, byte}
pub use Rattle.codes.specs.declared.refusals.Rule.{Rule}
pub use Rattle.codes.specs.declared.refusals.Rule.TheVariants.{Touching as touching, Ahead as ahead, Service as service, Stopping as stopping, Next as next}
pub use Rattle.codes.specs.Refusals.{rule_number}
use Rattle.laws.specs.Books.{Emergencies, Services}
use Rattle.rules.specs.Tracks.{Track, Mark, begin_of, end_of, length_of, class_over}

-- the longest train
abbrev pub train_length : ℕ
train_length = 170

-- the code is not above `to`, or its emergency distance to it fits
abbrev pub Down : Emergencies → Class → Code → Code → ℕ → Type 0
Down E k Stop to metres = Unit {0}
Down E k (Go v) to metres = (kmh v ≤ byte to) ⊎ (E k v to ≤ metres)

abbrev pub Halts : (Speed → ℕ) → Code → ℕ → Type 0
Halts distance Stop metres = Unit {0}
Halts distance (Go v) metres = distance v ≤ metres

abbrev pub code_rules : List Rule
code_rules = touching ∷ ahead ∷ service ∷ stopping ∷ []

abbrev pub rules : List Rule
rules = touching ∷ ahead ∷ service ∷ stopping ∷ next ∷ []

module _ (track : Track) (mark : Mark) (E : Emergencies) (D : Services) where
  -- the class from a train's length before the end of interval j on
  abbrev pub class_from : ℕ → ℕ → Class
  class_from j to = class_over track (end_of track j - train_length) to

  -- 1. A restriction that begins before the danger point and touches the interval, the train's length behind it included,
  -- is not exceeded.
  abbrev pub Touching : ℕ → Code → Type 0
  Touching j c = AllByRecursion (λ x. x.from < mark.danger → x.from < end_of track j → begin_of track j < x.to + train_length → byte c ≤ kmh x.value) track.restrictions

  -- 2. A restriction that begins ahead, before the danger point: the train is down to its speed where it begins.
  abbrev pub Ahead : ℕ → Code → Type 0
  Ahead j c = AllByRecursion (λ x. x.from < mark.danger → end_of track j ≤ x.from → Down E (class_from j x.from) c (Go x.value) (x.from - end_of track j)) track.restrictions

  -- 3. A train stops before the mark by service braking.
  abbrev pub Service : ℕ → Code → Type 0
  Service j c = Halts (D (class_from j mark.position)) c (mark.position - end_of track j)

  -- 4. A train stops before the danger point by emergency braking.
  abbrev pub Stopping : ℕ → Code → Type 0
  Stopping j c = Halts (λ v. E (class_from j mark.danger) v Stop) c (mark.danger - end_of track j)

  -- the rules for a code by itself
  abbrev pub Fits : ℕ → Code → Type 0
  Fits j c = Touching j c × Ahead j c × Service j c × Stopping j c

  abbrev pub Stops : ℕ → Type 0
  Stops j = (c : Code) → Fits j c → c ≡ Stop

  -- the longest run of intervals that ends in the mark's, and in each of which stop is the highest code by rules 1 to 4
  pub record InGround (j : ℕ) : Type 0 where
    pub first : 1 ≤ j
    pub last : j ≤ mark.interval
    pub stops : (i : ℕ) → j ≤ i → i ≤ mark.interval → Stops i

  abbrev pub BeforeGround : ℕ → Type 0
  BeforeGround j = (i : ℕ) → InGround i → j < i

  -- 5. Before the stop ground a train is down to the next interval's code where that interval ends.
  abbrev pub Next : ℕ → Code → Code → Type 0
  Next j c w = BeforeGround (suc j) → Down E (class_from j (end_of track (suc j))) c w (length_of track (suc j))

  abbrev pub Obeys : ℕ → Code → Code → Rule → Type 0
  Obeys j c w touching = Touching j c
  Obeys j c w ahead = Ahead j c
  Obeys j c w service = Service j c
  Obeys j c w stopping = Stopping j c
  Obeys j c w next = Next j c w

  abbrev pub Allowed : ℕ → Code → Code → Type 0
  Allowed j c w = AllByRecursion (Obeys j c w) rules

-- the codes of the approach and of a row's intervals; stop behind the row
abbrev pub code_at : Speed → List Code → ℕ → Code
code_at approach row zero = Go approach
code_at approach row (suc j) = slice_index_or row j Stop

pub record Lawful (track : Track) (mark : Mark) (E : Emergencies) (D : Services) (approach : Speed) (row : List Code) : Type 0 where
  pub size : length row ≡ mark.interval
  pub obeys : (j : ℕ) → j ≤ mark.interval → Allowed track mark E D j (code_at approach row j) (slice_index_or row j Stop)
