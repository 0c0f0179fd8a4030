use Rattle.rules.proofs.UpToTop.{down_up_to}
use Rattle.rules.proofs.braked.highest_down.Goals as goal

pub returns-clause-up_to : goal.returns-clause-up_to
returns-clause-up_to g c =
    let book = c.args.book.now in
    down_up_to (g.B.BrakingBook.emergencies book) (g.B.BrakingBook.services book) (g.B.BrakingBook.laws book) c.args.class c.args.metres c.args.to c.highest_passing.result c.highest_passing.ensures.top
