use Rattle.std.proofs.Common.{FitsSigned, w32, rules, to_z-of_z}
use Rattle.entering.proofs.Values.{class_of_faldtal_is}
use Rattle.entering.proofs.gradients.EntryI32Draft.checked.Goals as goal

pub returns-clause-answer : goal.returns-clause-answer
returns-clause-answer c =
    let fits : FitsSigned w32 c.args.self.now.value = search rules in
    let classed = simp to_z-of_z at c.in_ok-value.ensures in
    let class = class_of_faldtal_is c.args.self.now.value _ classed.0 classed.1 in
    search rules
