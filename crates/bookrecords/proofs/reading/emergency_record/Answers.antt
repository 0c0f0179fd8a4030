use Rattle.std.proofs.Common.{◌≡◌, Some, sym, ◌∙◌}
use Rattle.std.proofs.lemmas.Bool.{cond-true, cond-false}
use Rattle.codes.specs.Speeds.{code_of}
use Rattle.bookrecords.proofs.Decodes.{chosen, emergency_known}
use Rattle.bookrecords.proofs.reading.emergency_record.Goals as goal

pub returns-then-not-is_possible-clause-said : goal.returns-then-not-is_possible-clause-said
returns-then-not-is_possible-clause-said c =
    let to = c.in_ok-to.to in
    let code : code_of c.args.to ≡ Some to = chosen _ _ (code_of c.args.to) c.try_from.result c.try_from.ensures to c.in_ok-to.ensures in
    sym (emergency_known c.args.class c.args.from c.args.to c.args.metres c.class_and_from.result c.class_and_from.ensures c.in_ok-class.class c.in_ok-class.from to c.in_ok-class.was code
    ∙ cond-false _ _ _ (sym c.if-not-is_possible.ensures))

pub returns-clause-said : goal.returns-clause-said
returns-clause-said c =
    let to = c.in_ok-to.to in
    let code : code_of c.args.to ≡ Some to = chosen _ _ (code_of c.args.to) c.try_from.result c.try_from.ensures to c.in_ok-to.ensures in
    sym (emergency_known c.args.class c.args.from c.args.to c.args.metres c.class_and_from.result c.class_and_from.ensures c.in_ok-class.class c.in_ok-class.from to c.in_ok-class.was code
    ∙ cond-true _ _ _ (sym c.if-not-is_possible.ensures))
