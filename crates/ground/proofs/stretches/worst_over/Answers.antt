use Rattle.std.proofs.Common.{sym, ◌∙◌, arith}
use Rattle.ground.proofs.Laws.{stretches}
use Rattle.ground.proofs.stretches.worst_over.Goals as goal

pub returns-then-to-from : goal.returns-then-to-from
returns-then-to-from g c =
    let laws = stretches g.met.V.Graded.lawful in
    record {
      value = c.UNDRAWN.ensures ∙ g.met.V.Graded.undrawn ∙ sym ((laws c.args.entries.now).none c.args.from c.args.to (omega arith));
      laws = laws;
    }

pub returns-clause-laws : goal.returns-clause-laws
returns-clause-laws g c = stretches g.met.V.Graded.lawful
