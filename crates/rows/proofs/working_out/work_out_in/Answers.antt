use Rattle.std.proofs.Common.{length}
use Rattle.std.proofs.lemmas.Result.{err_from_is_err_and}
use Rattle.rows.specs.Drawings.{drawing_of}
use Rattle.rows.proofs.Lacks.{lacks_not_asked}
use Rattle.rows.proofs.Exits.{worked_unsettled}
use Rattle.rows.proofs.working_out.work_out_in.Goals as goal

pub returns-in_err-target-clause-memory : goal.returns-in_err-target-clause-memory
returns-in_err-target-clause-memory g c =
    let p = err_from_is_err_and c.from_residual.result c.from_residual.ensures.1 in
    rw (p.1, p.2) (lacks_not_asked (drawing_of c.args.line.now) c.args.mark c.args.approach c.args.row.now (length c.args.scratch.now) _ c.in_err-target.ensures)

pub returns-in_err-settled-clause-cases : goal.returns-in_err-settled-clause-cases
returns-in_err-settled-clause-cases g c =
    let book = c.args.book.now in
    worked_unsettled (drawing_of c.args.line.now) c.args.mark c.args.approach c.args.row.now (g.B.BrakingBook.emergencies book) (g.B.BrakingBook.services book) c.from_residual-in_err-settled.result c.settled.new.row
    c.in_err-settled.field-0.0 c.in_ok-target.target c.in_ok-target.speed c.from_residual-in_err-settled.ensures.1 c.in_ok-target.ensures c.in_err-settled.ensures
