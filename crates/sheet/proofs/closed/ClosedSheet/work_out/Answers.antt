use Rattle.std.proofs.Common.{[], Ok, Err, ap}
use Rattle.rows.specs.Drawings.{drawing_of}
use Rattle.sheet.specs.States.{heading_of}
use Rattle.sheet.specs.Promises.{tables_of}
use Rattle.sheet.proofs.Passes.{few_drawn, roomy, works_over}
use Rattle.sheet.proofs.closed.ClosedSheet.work_out.Goals as goal

pub unreachable-requires : goal.unreachable-requires
unreachable-requires g c =
    let line = drawing_of c.in_ok-line.line in
    let few = few_drawn c.args.self.now.base (tables_of c.args.lent.now []) line c.in_ok-line.ensures.1 in
    roomy line c.args.mark c.args.approach c.args.row.now 64 few (c.in-Err-Memory.ensures.memory.0 (ap (λ failure. Err failure) c.in-Err-Memory.field-0-is))

pub returns-in-Ok : goal.returns-in-Ok
returns-in-Ok g c =
    let book = c.args.book.now in
    works_over c.args.mark c.args.approach (g.B.BrakingBook.emergencies book) (g.B.BrakingBook.services book) c.args.row.now (heading_of c.args.self.now.base) (tables_of c.args.lent.now [])
    (drawing_of c.in_ok-line.line) c.args.row.now c.work_out_in.new.row (Ok c.in-Ok.told) c.in_ok-line.ensures.0 c.in_ok-line.ensures.1 c.in-Ok.ensures.cases
