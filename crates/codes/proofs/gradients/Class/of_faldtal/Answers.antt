use Rattle.std.proofs.Common.{sym, subst, to_z-of_z, arith}
use Rattle.std.proofs.lemmas.Int.{ints}
use Rattle.codes.specs.Gradients.{Classed}
use Rattle.codes.proofs.Edges.{classed_from_first}
use Rattle.codes.proofs.gradients.Class.of_faldtal.Goals as goal

pub returns : goal.returns
returns c =
    let fits = c.ranges.faldtal in
    let below = simp to_z-of_z at c.if-faldtal-gt350.false in
    let first = simp to_z-of_z at c.first_reached.ensures in
    subst (Classed c.args.faldtal) (sym c.ok_or.ensures.value) (classed_from_first c.args.faldtal (grind (arith, ints)) c.first_reached.result first)
