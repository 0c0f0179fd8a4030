-- The class of a faldtal is the first whose edge it does not fall below. Assumes nothing.
use Rattle.std.proofs.Common.{◌≡◌, ℕ, zero, suc, ◌+◌, ◌-◌, ◌<◌, ◌≤◌, true, List, [], ◌∷◌, length, get_or, ℤ, ◌≤ℤ◌, refl, not-suc-le-zero, arith}
use lib.Signed.{le_z}
use Rattle.std.proofs.lemmas.Int.{ints, by_lt_z}
use Rattle.codes.specs.declared.gradients.Class.{Class}
use Rattle.codes.specs.declared.gradients.Class.TheVariants.{C1, C2, C3, C4, C5, C6, C7, C8, C9, C10, C11}
use Rattle.codes.specs.Gradients.{number, classes, edge, Faldtal, First}
use Rattle.entering.specs.Entering.{first_reached, class_of_faldtal}

-- ---- classes
-- the classes of a list are numbered n, n + 1 and so on
abbrev Rising : ℕ → List Class → Type 0
Rising n [] = Unit {0}
Rising n (k ∷ ks) = (number k ≡ n) × Rising (suc n) ks

classes_rise : Rising 1 classes
classes_rise = (refl, (refl, (refl, (refl, (refl, (refl, (refl, (refl, (refl, (refl, (refl, tt)))))))))))

place_of : (k : Class) → (1 ≤ number k) × (number k ≤ 11) × (get_or classes (number k - 1) C1 ≡ k)
place_of C1 = (omega arith, omega arith, refl)
place_of C2 = (omega arith, omega arith, refl)
place_of C3 = (omega arith, omega arith, refl)
place_of C4 = (omega arith, omega arith, refl)
place_of C5 = (omega arith, omega arith, refl)
place_of C6 = (omega arith, omega arith, refl)
place_of C7 = (omega arith, omega arith, refl)
place_of C8 = (omega arith, omega arith, refl)
place_of C9 = (omega arith, omega arith, refl)
place_of C10 = (omega arith, omega arith, refl)
place_of C11 = (omega arith, omega arith, refl)

same_class : (j k : Class) → number j ≡ number k → j ≡ k
same_class j k e = grind arith

module _ (f : ℤ) where
  reached : (ks : List Class) → le_z (edge C11) f ≡ true → le_z (edge (first_reached f ks)) f ≡ true
  reached [] low = low
  reached (k ∷ ks) low = let later = reached ks low in grind arith

  least : (n : ℕ) (ks : List Class) → Rising n ks → (i : ℕ) → i < length ks → le_z (edge (get_or ks i C1)) f ≡ true → number (first_reached f ks) ≤ n + i
  least n [] rise i l r = absurd (not-suc-le-zero l)
  least n (k ∷ ks) rise zero l r = let here = rise.0 in rw r (omega arith)
  least n (k ∷ ks) rise (suc i) l r = let here = rise.0 in let later = least (suc n) ks rise.1 i (omega arith) r in grind arith

  -- a class whose edge is reached is not before it
  not_before : (j : Class) → edge j ≤ℤ f → number (class_of_faldtal f) ≤ number j
  unfolding class_of_faldtal
  not_before j r =
      let place = place_of j in
      let there : le_z (edge (get_or classes (number j - 1) C1)) f ≡ true = rw place.2 (grind (arith, ints)) in
      let bound = least 1 classes classes_rise (number j - 1) (omega arith) there in
      omega arith

  pub first_class_of_faldtal : Faldtal f → First f (class_of_faldtal f)
  unfolding class_of_faldtal
  first_class_of_faldtal faldtal =
      let low = faldtal.0 in
      let there = reached classes (let e : le_z (edge C11) f ≡ true = grind (arith, ints) in e) in
      record { reaches = grind (arith, ints); flatter = λ j before. by_lt_z f (edge j) (λ below. below) (λ r. let bound = not_before j r in absurd (omega arith)) }

  -- there is one first class
  pub class_of_faldtal_is : (k : Class) → Faldtal f → First f k → k ≡ class_of_faldtal f
  class_of_faldtal_is k faldtal h =
      let k-reached = not_before k h.reaches in
      let not-flatter : number (class_of_faldtal f) < number k → ⊥ = λ flatter. let below = h.flatter (class_of_faldtal f) flatter in let reach = (first_class_of_faldtal faldtal).reaches in omega (arith, ints) in
      same_class k (class_of_faldtal f) (omega arith)
