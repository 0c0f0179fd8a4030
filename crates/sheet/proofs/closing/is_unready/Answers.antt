use Rattle.std.proofs.Common.{◌∙◌, arith}
use Rattle.std.proofs.lemmas.Bool.Decides.{nat_tests}
use Rattle.sheet.proofs.Ends.{marks_between}
use Rattle.sheet.proofs.closing.is_unready.Goals as goal

pub returns-else-is_empty : goal.returns-else-is_empty
returns-else-is_empty c =
    let between = rw c.metres_of.ensures at c.all_between.ensures in
    let stand = between ∙ marks_between c.args.start c.args.intervals.now c.args.marks.now in
    let some = c.if-is_empty.ensures in
    grind (arith, nat_tests)
