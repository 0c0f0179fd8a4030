-- The class of a faldtal is the first whose edge it does not fall below. Assumes nothing.
use Rattle.std.proofs.Common.{◌≡◌, Bool, Some, None, Option, ℤ, pos, ◌≤ℤ◌, ok_or, refl, subst, sym, arith}
use lib.Signed.{le_z}
use Rattle.std.proofs.lemmas.Int.{ints}
use Rattle.codes.specs.declared.gradients.Class.{Class}
use Rattle.codes.specs.declared.gradients.Class.TheVariants.{C11}
use Rattle.codes.specs.declared.refusals.Refusal.TheVariants as refusal
use Rattle.codes.specs.Gradients.{number, edge, first_reached, Classed}
use Rattle.codes.proofs.Firsts.{FirstPassing, first_class}

pub edge_low : (k : Class) → edge C11 ≤ℤ edge k
edge_low k = grind (arith, ints)

module _ (f : ℤ) where
  -- whether f does not fall below the edge of a class
  abbrev at_edge : Class → Bool
  at_edge k = le_z (edge k) f

  classed : f ≤ℤ pos 350 → (r : Option Class) → FirstPassing number at_edge r → Classed f (ok_or r refusal.Grade)
  classed high None none = (λ faldtal. (let below = none C11 in let low = faldtal.0 in grind (arith, ints)), refl)
  classed high (Some k) first =
      let lowest = edge_low k in
      let here = first.0 in
      let reach : edge k ≤ℤ f = grind (arith, ints) in
      ((omega (arith, ints), high), record { reaches = reach; flatter = λ j l. (let below = first.1 j l in grind (arith, ints)) })

  -- the first class whose edge is reached is that of the faldtal, and where there is none it is no faldtal
  pub classed_from_first : f ≤ℤ pos 350 → (r : Option Class) → r ≡ first_reached f → Classed f (ok_or r refusal.Grade)
  unfolding first_reached
  classed_from_first high r e = classed high r (subst (FirstPassing number at_edge) (sym e) (first_class at_edge))
