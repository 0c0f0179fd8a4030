-- The gradient classes and what a faldtal is. Assumes nothing.
--     number k         the number of a class, 1 to 11; a higher one is steeper
--     class_of n       the class of number n, if there is one
--     edge k           the lowest faldtal that class k takes, in tenths of a permille
--     Numbered n r     r is the class of number n, or refusal 17 where there is none
--     first_reached f  the first class whose edge f does not fall below, if there is one
--     Faldtal f        f is a faldtal: -350 to 350
--     First f k        k is the first class whose edge f does not fall below
--     Classed f r      r is the class of f, or refusal 5 where f is no faldtal
use Rattle.std.specs.Prelude.{◌≡◌, ℕ, ◌<◌, List, [], ◌∷◌, ℤ, pos, neg_ℤ, ◌≤ℤ◌, ◌<ℤ◌, Ok, Err, Option, Result, ok_or, int_le}
use Rattle.std.specs.List.{find}
use Rattle.codes.specs.declared.gradients.Class.{Class}
use Rattle.codes.specs.declared.gradients.Class.TheVariants.{C1, C2, C3, C4, C5, C6, C7, C8, C9, C10, C11}
use Rattle.codes.specs.declared.refusals.Refusal.{Refusal}
use Rattle.codes.specs.declared.refusals.Refusal.TheVariants.{Record}
use Rattle.codes.specs.declared.refusals.RecordFault.TheVariants.{Entry}
use Rattle.codes.specs.Speeds.{numbered}
use Rattle.codes.specs.Refusals.{notice}

abbrev pub number : Class → ℕ
number C1 = 1
number C2 = 2
number C3 = 3
number C4 = 4
number C5 = 5
number C6 = 6
number C7 = 7
number C8 = 8
number C9 = 9
number C10 = 10
number C11 = 11

-- the eleven classes, from the flattest to the steepest
abbrev pub classes : List Class
classes = C1 ∷ C2 ∷ C3 ∷ C4 ∷ C5 ∷ C6 ∷ C7 ∷ C8 ∷ C9 ∷ C10 ∷ C11 ∷ []

abbrev pub class_of : ℕ → Option Class
class_of n = numbered number n classes

abbrev pub Numbered : ℕ → Result Class Refusal → Type 0
Numbered n r = r ≡ ok_or (class_of n) (Record Entry)

abbrev pub edge : Class → ℤ
edge C1 = neg_ℤ (pos 25)
edge C2 = neg_ℤ (pos 50)
edge C3 = neg_ℤ (pos 71)
edge C4 = neg_ℤ (pos 80)
edge C5 = neg_ℤ (pos 90)
edge C6 = neg_ℤ (pos 100)
edge C7 = neg_ℤ (pos 125)
edge C8 = neg_ℤ (pos 175)
edge C9 = neg_ℤ (pos 225)
edge C10 = neg_ℤ (pos 275)
edge C11 = neg_ℤ (pos 350)

unfoldable pub first_reached : ℤ → Option Class
first_reached f = find (λ k. int_le (edge k) f) classes

abbrev pub Faldtal : ℤ → Type 0
Faldtal f = (neg_ℤ (pos 350) ≤ℤ f) × (f ≤ℤ pos 350)

pub record First (f : ℤ) (k : Class) : Type 0 where
  pub reaches : edge k ≤ℤ f
  pub flatter : (j : Class) → number j < number k → f <ℤ edge j

abbrev pub Classed : ℤ → Result Class Refusal → Type 0
Classed f (Ok k) = Faldtal f × First f k
Classed f (Err w) = (Faldtal f → ⊥) × (notice w ≡ (5, []))
