use Rattle.rules.proofs.UpToTop.{halts_up_to}
use Rattle.rules.proofs.braked.highest_service_stop.Goals as goal

pub returns : goal.returns
returns g c =
    let book = c.args.book.now in
    halts_up_to (g.B.BrakingBook.emergencies book) (g.B.BrakingBook.services book) (g.B.BrakingBook.laws book) c.args.class c.args.metres c.highest_passing.result c.highest_passing.ensures.top
