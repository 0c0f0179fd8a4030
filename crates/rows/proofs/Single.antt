-- A mark and an approach code have one highest row, one stop ground and one first break. Assumes nothing.
use Rattle.std.proofs.Common.{◌≡◌, ℕ, ◌-◌, ◌<◌, ◌≤◌, List, length, get_or, unwrap_or, sym, refl, ap, ◌∙◌, subst, le_antisymm, arith}
use native.Mathlib.Decide.{dec_lt}
use Rattle.std.proofs.lemmas.List.{ext_get_or, get_or-map, length-map}
use Rattle.codes.specs.declared.speeds.Speed.{Speed}
use Rattle.codes.specs.declared.speeds.Code.{Code}
use Rattle.codes.specs.declared.speeds.Code.TheVariants.{Stop}
use Rattle.codes.specs.Speeds.{byte}
use Rattle.codes.proofs.Numbered.{code_back}
use Rattle.laws.specs.Books.{Emergencies, Services}
use Rattle.rules.specs.Tracks.{Track, Mark, begin_of, class_over}
use Rattle.rules.specs.Rules.{Rule, rule_number, code_at, train_length}
use Rattle.rules.specs.Rows.{AtMost, Highest, Breaks}
use Rattle.rows.specs.declared.letters.StopLetter.{StopLetter}
use Rattle.rows.specs.Drawings.{Drawing, track_drawn}
use Rattle.rows.specs.Targets.{mark_of}
use Rattle.rows.specs.Passing.{read_code, codes_of}
use Rattle.rows.specs.WorkingOut.{Spells, letter_of, FirstOfGround, Grounded, Worked}
use Rattle.rows.specs.Examining.{Passed}
use Rattle.rows.proofs.Verdicts.{same_asked, obeys_from_allowed}

-- ---- rows

byte_read : (bytes : List ℕ) → Spells 0 bytes → (k : ℕ) → k < length bytes → get_or bytes k 0 ≡ byte (get_or (codes_of bytes) k Stop)
byte_read bytes spelt k within =
    let (c, is) = spelt k (omega arith) within in
    let read : get_or (codes_of bytes) k Stop ≡ c = get_or-map read_code bytes k 0 Stop within ∙ ap read_code is ∙ ap (λ o. unwrap_or o Stop) (code_back c) in
    is ∙ ap byte (sym read)

-- two rows neither of which is above the other
same_row : (one other : List ℕ) → Spells 0 one → Spells 0 other → length one ≡ length other
    → AtMost (codes_of one) (codes_of other) → AtMost (codes_of other) (codes_of one) → one ≡ other
same_row one other spelt spelt' long low high =
    ext_get_or 0 one other long (λ k within. byte_read one spelt k within ∙ le_antisymm (low k) (high k) ∙ sym (byte_read other spelt' k (omega arith)))

module _ (track : Track) (mark : Mark) (E : Emergencies) (D : Services) where
  ground_same : (one other : ℕ) → FirstOfGround track mark E D one → FirstOfGround track mark E D other → one ≡ other
  ground_same one other first first' = le_antisymm (first.first other first'.inside) (first'.first one first.inside)

  module _ (approach : Speed) where
    highest_same : (one other : List ℕ) → Spells 0 one → Spells 0 other
        → Highest track mark E D approach (codes_of one) → Highest track mark E D approach (codes_of other) → one ≡ other
    highest_same one other spelt spelt' highest highest' =
        same_row one other spelt spelt' (sym (length-map one read_code) ∙ highest.lawful.size ∙ sym highest'.lawful.size ∙ length-map other read_code)
        (highest'.highest (codes_of one) highest.lawful) (highest.highest (codes_of other) highest'.lawful)

    -- a first break is at no later interval than another break, and there by no later rule
    module _ (row : List Code) where
      no_later_place : (j i : ℕ) (rule other : Rule) → Breaks track mark E D approach row j rule → Breaks track mark E D approach row i other → j ≤ i
      no_later_place j i rule other breaks breaks' =
          elim (dec_lt i j) [
            | yes less ↦ absurd (breaks'.broken (obeys_from_allowed track mark E D i (code_at approach row i) (get_or row i Stop) (breaks.earlier i less) other))
            | no least ↦ omega arith
          ]

      no_later_rule : (j : ℕ) (rule other : Rule) → Breaks track mark E D approach row j rule → Breaks track mark E D approach row j other → rule_number rule ≤ rule_number other
      no_later_rule j rule other breaks breaks' =
          elim (dec_lt (rule_number other) (rule_number rule)) [
            | yes less ↦ absurd (breaks'.broken (breaks.before other less))
            | no least ↦ omega arith
          ]

      pub breaks_same : (j i : ℕ) (rule other : Rule) → Breaks track mark E D approach row j rule → Breaks track mark E D approach row i other
          → (j ≡ i) × (rule_number rule ≡ rule_number other)
      breaks_same j i rule other breaks breaks' =
          let place = le_antisymm (no_later_place j i rule other breaks breaks') (no_later_place i j other rule breaks' breaks) in
          let at_j = subst (λ k. Breaks track mark E D approach row k other) (sym place) breaks' in
          (place, le_antisymm (no_later_rule j rule other breaks at_j) (no_later_rule j other rule at_j breaks))

-- ---- answers

module _ (drawing : Drawing) (number approach : ℕ) where
  module _ (E : Emergencies) (D : Services) where
    pub passed_same : (bytes : List ℕ) (one other : Passed drawing number approach E D bytes) → (one.target ≡ other.target) × (one.speed ≡ other.speed)
    passed_same bytes one other = same_asked drawing number approach (λ t v. (one.target ≡ t) × (one.speed ≡ v)) one.asked other.asked (refl, refl)

    pub worked_same : (row row' : List ℕ) (letter letter' : StopLetter) (place place' : ℕ) → Worked drawing number approach E D row letter place
        → Worked drawing number approach E D row' letter' place' → (row ≡ row') × (letter ≡ letter') × (place ≡ place')
    worked_same row row' letter letter' place place' one other =
        let highest = same_asked drawing number approach (λ t v. Highest (track_drawn drawing) (mark_of t) E D v (codes_of row)) one.asked other.asked one.highest in
        let ground = same_asked drawing number approach (λ t v. Grounded drawing t E D letter place) one.asked other.asked one.ground in
        let at : place ≡ place' = ground_same (track_drawn drawing) (mark_of other.target) E D place place' ground.first other.ground.first in (
          highest_same (track_drawn drawing) (mark_of other.target) E D other.speed row row' one.spelt other.spelt highest other.highest,
          ground.tells ∙ ap (λ p. letter_of (class_over (track_drawn drawing) (begin_of (track_drawn drawing) p - train_length) other.target.position)) at ∙ sym other.ground.tells,
          at,
        )
