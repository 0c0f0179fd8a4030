-- The first of a list in rising order that passes a test. Assumes nothing.
use Rattle.std.proofs.Common.{◌≡◌, ℕ, suc, ◌<◌, ◌≤◌, Bool, true, false, cond, List, [], ◌∷◌, Some, None, Option, sym, refl, ◌∙◌, subst, arith}
use native.Mathlib.Decide.{ℕ_discrete}
use Rattle.std.specs.List.{find}
use Rattle.codes.specs.declared.gradients.Class.{Class}
use Rattle.codes.specs.Gradients.{number, classes}

-- x is the first by rank that passes, or none passes
abbrev pub FirstPassing : {X : Type 0} → (X → ℕ) → (X → Bool) → Option X → Type 0
FirstPassing {X} rank test None = (x : X) → test x ≡ false
FirstPassing {X} rank test (Some x) = (test x ≡ true) × ((y : X) → rank y < rank x → test y ≡ false)

-- the list has what is of rank n or above, each rank once, in rising order
abbrev pub RanksFrom : {X : Type 0} → (X → ℕ) → ℕ → List X → Type 0
RanksFrom {X} rank n [] = (y : X) → rank y < n
RanksFrom {X} rank n (x ∷ xs) = (rank x ≡ n) × RanksFrom rank (suc n) xs

module _ {X : Type 0} (rank : X → ℕ) (apart : (x y : X) → rank x ≡ rank y → x ≡ y) (test : X → Bool) where
  pub searched : (n : ℕ) (xs : List X) → RanksFrom rank n xs → ((y : X) → rank y < n → test y ≡ false) → FirstPassing rank test (find test xs)
  searched n [] ranks passed = λ y. passed y (ranks y)
  searched n (x ∷ xs) ranks passed =
      looked (test x) refl
      (λ fails. searched (suc n) xs ranks.1
      (λ y l. elim (ℕ_discrete (rank y) n) [
        | yes here ↦ subst (λ z. test z ≡ false) (apart x y (ranks.0 ∙ sym here)) fails
        | no before ↦ passed y (omega arith)
      ]))
    where
      looked : (b : Bool) → test x ≡ b → (test x ≡ false → FirstPassing rank test (find test xs)) → FirstPassing rank test (cond b (Some x) (find test xs))
      looked true passes rest = (passes, λ y l. passed y (let here = ranks.0 in omega arith))
      looked false fails rest = rest fails

-- ---- the eleven classes, from the flattest on

class_apart : (j k : Class) → number j ≡ number k → j ≡ k
class_apart j k e = grind arith

class_within : (k : Class) → (1 ≤ number k) × (number k < 12)
class_within k = (grind arith, grind arith)

pub first_class : (test : Class → Bool) → FirstPassing number test (find test classes)
first_class test =
    searched number class_apart test 1 classes (refl, (refl, (refl, (refl, (refl, (refl, (refl, (refl, (refl, (refl, (refl, λ k. (class_within k).1)))))))))))
    (λ k l. absurd (let least = (class_within k).0 in omega arith))
