-- Trains that tell the same paces over the same line are the same. Assumes nothing.
--     Single R      of two readings by R at the front of one list of paces, both read the same and leave the same for later
use Rattle.std.proofs.Common.{◌≡◌, ℕ, ◌<◌, ◌≤◌, List, [], ◌∷◌, ◌++◌, get_or, sym, refl, ap, ◌∙◌, subst, le_antisymm, arith}
use native.Mathlib.Decide.{dec_lt}
use Rattle.codes.specs.declared.speeds.Code.{Code}
use Rattle.codes.specs.declared.speeds.Code.TheVariants.{Stop}
use Rattle.codes.specs.declared.gradients.Class.{Class}
use Rattle.laws.specs.Books.{Emergencies}
use Rattle.rules.specs.Tracks.{Track, Mark}
use Rattle.trains.specs.Braking.{Numbers, Hears, Rolls}
use Rattle.driving.specs.Journeys.{Journey, class_behind, class_at, Differs, SetsOff, Arrives, hears_code, hears_none, Moves}

-- x is read from told, and later follows told in the list
abbrev pub Single : {X : Type 0} → (X → List ℕ → Type 0) → Type 0
Single {X} R = (x x' : X) (told told' later later' : List ℕ) → R x told → R x' told' → told ++ later ≡ told' ++ later' → (x ≡ x') × (later ≡ later')

-- the first pace of both
first_pace : (a b : ℕ) (heard heard' told told' later later' : List ℕ) → told ≡ a ∷ heard → told' ≡ b ∷ heard' → told ++ later ≡ told' ++ later'
    → (a ≡ b) × (heard ++ later ≡ heard' ++ later')
first_pace a b heard heard' told told' later later' is is' e =
    let split : a ∷ (heard ++ later) ≡ b ∷ (heard' ++ later') = sym (ap (λ l. l ++ later) is) ∙ e ∙ ap (λ l. l ++ later') is' in
    (cc, cc)

-- ---- the five numbers

numbers_same : (n m : Numbers) → n.pace ≡ m.pace → n.carried ≡ m.carried → n.heard ≡ m.heard → n.rolled ≡ m.rolled → n.gradient ≡ m.gradient → n ≡ m
numbers_same n m pace carried heard rolled ground =
    let same : ◌≡◌ {A = Numbers} (record { pace = n.pace; carried = n.carried; heard = n.heard; rolled = n.rolled; gradient = n.gradient }) (record { pace = m.pace; carried = m.carried; heard = m.heard; rolled = m.rolled; gradient = m.gradient }) = cc in
    same

journey_same : (one other : Journey) → one.position ≡ other.position → one.told ≡ other.told → one.train ≡ other.train → one ≡ other
journey_same one other position told train =
    let same : ◌≡◌ {A = Journey} (record { position = one.position; told = one.told; train = one.train }) (record { position = other.position; told = other.told; train = other.train }) = cc in
    same

module _ (E : Emergencies) (m n n' : Numbers) where
  hears_same : (code code' : Code) (class class' : Class) → code ≡ code' → class ≡ class' → Hears E code class m n → Hears E code' class' m n' → n.pace ≡ n'.pace → n ≡ n'
  hears_same code code' class class' same_code same_Class one other pace =
      numbers_same n n' pace (one.carried ∙ sym other.carried) (one.heard ∙ same_code ∙ sym other.heard) (one.rolled ∙ sym other.rolled) (one.gradient ∙ same_Class ∙ sym other.gradient)

  rolls_same : (class : Class) → Rolls E class m n → Rolls E class m n' → n.pace ≡ n'.pace → n ≡ n'
  rolls_same class one other pace =
      numbers_same n n' pace (one.carried ∙ sym other.carried) (one.heard ∙ sym other.heard) (one.rolled ∙ sym other.rolled) (one.gradient ∙ sym other.gradient)

-- ---- setting off and moving on

module _ (track : Track) (mark : Mark) (E : Emergencies) (row : List Code) where
  pub sets_off_single : (train : Numbers) → Single (SetsOff track mark E row train)
  sets_off_single train journey journey' told told' later later' one other e =
      let (pace, rest) = first_pace journey.train.pace journey'.train.pace [] [] told told' later later' one.tells other.tells e in (
        journey_same journey journey' (one.position ∙ sym other.position) (one.told ∙ sym other.told)
            (hears_same E train journey.train journey'.train _ _ _ _ refl refl one.hears other.hears pace),
        rest,
      )

  module _ (told : Code) where
    differs_at : (p q i : ℕ) → p ≡ q → Differs track mark row told q i → Differs track mark row told p i
    differs_at p q i e differs = subst (λ x. Differs track mark row told x i) (sym e) differs

    -- no interval before the first one differs
    first_least : (p q i k : ℕ) → p ≡ q → ((k : ℕ) → k < i → Differs track mark row told p k → ⊥) → Differs track mark row told q k → i ≤ k
    first_least p q i k e first differs =
        elim (dec_lt k i) [
          | yes less ↦ absurd (first k less (differs_at p q k e differs))
          | no least ↦ omega arith
        ]

    module _ (train : Numbers) (later later' : List ℕ) where
      arrives_single : (journey journey' : Journey) (heard heard' : List ℕ) → journey.position ≡ journey'.position
          → Arrives track mark E row told train journey heard → Arrives track mark E row told train journey' heard' → heard ++ later ≡ heard' ++ later'
          → (journey ≡ journey') × (later ≡ later')
      arrives_single journey journey' _ _ at (hears_code i differs first tells hears) (hears_code k differs' first' tells' hears') e =
          let (pace, rest) = first_pace journey.train.pace journey'.train.pace [] [] _ _ later later' refl refl e in
          let place : i ≡ k = le_antisymm (first_least _ _ i k at first differs') (first_least _ _ k i (sym at) first' differs) in
          let code : get_or row i Stop ≡ get_or row k Stop = ap (λ n. get_or row n Stop) place in (
            journey_same journey journey' at (tells ∙ code ∙ sym tells')
                (hears_same E train journey.train journey'.train _ _ _ _ code (ap (class_behind track) at) hears hears' pace),
            rest,
          )
      arrives_single journey journey' _ _ at (hears_code i differs first tells hears) (hears_none none tells' stays') e = absurd (none i (differs_at _ _ i (sym at) differs))
      arrives_single journey journey' _ _ at (hears_none none tells stays) (hears_code k differs' first' tells' hears') e = absurd (none k (differs_at _ _ k at differs'))
      arrives_single journey journey' _ _ at (hears_none none tells stays) (hears_none none' tells' stays') e =
          (journey_same journey journey' at (tells ∙ sym tells') (stays ∙ sym stays'), e)

  pub moves_single : (before : Journey) → Single (Moves track mark E row before)
  moves_single before after after' told told' later later' one other e =
      let (pace, rest) = first_pace one.rolled.pace other.rolled.pace one.heard other.heard told told' later later' one.tells other.tells e in
      let rolled : one.rolled ≡ other.rolled = rolls_same E before.train one.rolled other.rolled (class_at track before.position) one.rolls other.rolls pace in
      let arrives = subst (λ n. Arrives track mark E row before.told n after' other.heard) (sym rolled) other.arrives in
      arrives_single before.told one.rolled later later' after after' one.heard other.heard (one.position ∙ sym other.position) one.arrives arrives rest
