use Rattle.runs.proofs.Determined.{determined}
use Rattle.runs.proofs.is_determined.Goals as goal

-- src/lib.rt:13:1
pub returns : goal.returns
returns g c =
    let book = c.args.book.now in
    determined (g.B.BrakingBook.emergencies book) (g.B.BrakingBook.services book)
