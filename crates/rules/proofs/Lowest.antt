-- The lowest of the codes that each restriction leaves. Assumes nothing.
use Rattle.std.proofs.Common.{◌≡◌, ◌-◌, ◌≤◌, min, true, false, cond, ◌↔◌, List, [], ◌∷◌, map, fold, refl, arith}
use Rattle.std.specs.List.{AllByRecursion}
use Rattle.std.proofs.lemmas.Bool.Decides.{nat_tests}
use Rattle.codes.specs.declared.speeds.Speed.{Speed}
use Rattle.codes.specs.declared.speeds.Speed.TheVariants.{V120}
use Rattle.codes.specs.declared.speeds.Code.{Code}
use Rattle.codes.specs.declared.speeds.Code.TheVariants.{Go}
use Rattle.codes.specs.declared.gradients.Class.{Class}
use Rattle.codes.specs.Speeds.{byte}
use Rattle.ground.specs.declared.entries.Entry.{Entry}
use Rattle.ground.specs.Ground.{stretch_value}
use Rattle.ground.specs.Kinds.{steepness}
use Rattle.laws.specs.Books.{Emergencies, Services, Laws}
use Rattle.rules.specs.declared.places.Place.{Place}
use Rattle.rules.specs.Rules.{train_length}
use Rattle.rules.specs.Searching.{highest, UpTo}
use Rattle.rules.specs.Braked.{down_to}
use Rattle.rules.specs.Limits.{touches, lies_ahead, Touched, Braked}
use Rattle.rules.specs.Found.{lower_of, lowest, touching_code, ahead_code}
use Rattle.rules.proofs.Descent.{highest_top}
use Rattle.rules.proofs.UpToTop.{down_up_to}

at_most_120 : (c : Code) → byte c ≤ 120
at_most_120 c = grind arith

byte_lower : (one other : Code) → byte (lower_of one other) ≡ min (byte one) (byte other)
byte_lower one other = grind (arith, nat_tests)

module _ {X : Type 0} (P : X → Code → Type 0) (code : X → Code) (sets : (x : X) → UpTo (P x) (code x)) where
  -- at most the lowest of the rest and a code is at most that code, and allowed by all of the rest
  folded : (low : Code) (xs : List X) (c : Code) → (byte c ≤ byte (fold lower_of low (map code xs))) ↔ ((byte c ≤ byte low) × AllByRecursion (λ x. P x c) xs)
  folded low [] c = (λ h. (h, tt), λ h. h.0)
  folded low (x ∷ xs) c =
      let rest = folded (lower_of low (code x)) xs c in
      let lower = byte_lower low (code x) in (
        λ h. let under = (rest.0 h).0 in (omega arith, ((sets x c).1 (omega arith), (rest.0 h).1)),
        λ h. let here = (sets x c).0 h.1.0 in rest.1 (omega arith, h.1.1),
      )

  lowest_up_to : (xs : List X) → UpTo (λ c. AllByRecursion (λ x. P x c) xs) (lowest (map code xs))
  lowest_up_to xs c = (λ all. (folded (Go V120) xs c).1 (at_most_120 c, all), λ l. ((folded (Go V120) xs c).0 l).1)

-- ---- by the restrictions that touch
touching_up_to : (place : Place) (x : Entry Speed) → UpTo (Touched place x) (touching_code place x)
touching_up_to place x c =
    elim (touches place x) as (λ b. touches place x ≡ b → Touched place x c ↔ (byte c ≤ byte (cond b (Go x.value) (Go V120)))) [
      | true ↦ λ e. (λ h. h (grind (arith, nat_tests)) (grind (arith, nat_tests)) (grind (arith, nat_tests)), λ l before ends begins. l)
      | false ↦ λ e. (λ h. at_most_120 c, λ l before ends begins. absurd (grind (arith, nat_tests)))
    ] refl

pub touching_lowest : (place : Place) (xs : List (Entry Speed)) → UpTo (λ c. AllByRecursion (λ x. Touched place x c) xs) (lowest (map (touching_code place) xs))
touching_lowest place = lowest_up_to (Touched place) (touching_code place) (touching_up_to place)

-- ---- by the restrictions ahead
module _ (E : Emergencies) (D : Services) (laws : Laws E D) (gradients : List (Entry Class)) (place : Place) where
  ahead_up_to : (x : Entry Speed) → UpTo (Braked E gradients place x) (ahead_code E gradients place x)
  ahead_up_to x c =
      let k = stretch_value steepness gradients (place.end - train_length) x.from in
      let metres = x.from - place.end in
      let down = down_up_to E D laws k metres (Go x.value) _ (highest_top (down_to E k (Go x.value) metres)) c in
      elim (lies_ahead place x) as (λ b. lies_ahead place x ≡ b → Braked E gradients place x c ↔ (byte c ≤ byte (cond b (highest (down_to E k (Go x.value) metres)) (Go V120)))) [
        | true ↦ λ e. (λ h. down.0 (h (grind (arith, nat_tests)) (grind (arith, nat_tests))), λ l before ahead. down.1 l)
        | false ↦ λ e. (λ h. at_most_120 c, λ l before ahead. absurd (grind (arith, nat_tests)))
      ] refl

  pub ahead_lowest : (xs : List (Entry Speed)) → UpTo (λ c. AllByRecursion (λ x. Braked E gradients place x c) xs) (lowest (map (ahead_code E gradients place) xs))
  ahead_lowest = lowest_up_to (Braked E gradients place) (ahead_code E gradients place) ahead_up_to
