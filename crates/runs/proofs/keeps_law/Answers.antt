use Rattle.runs.proofs.Kept.{law_over_runs}
use Rattle.runs.proofs.keeps_law.Goals as goal

-- src/lib.rt:7:1
pub returns : goal.returns
returns g c =
    let book = c.args.book.now in
    law_over_runs (g.B.BrakingBook.emergencies book) (g.B.BrakingBook.services book) (g.B.BrakingBook.distances book) (g.B.BrakingBook.laws book)
