use Rattle.driving.proofs.Ways.{runs_are_safe}
use Rattle.driving.proofs.safety.Goals as goal

-- src/lib.rt:6:1
pub returns : goal.returns
returns g c =
    let book = c.args.book.now in
    runs_are_safe (g.B.BrakingBook.emergencies book) (g.B.BrakingBook.services book) (g.B.BrakingBook.distances book) (g.B.BrakingBook.laws book)
