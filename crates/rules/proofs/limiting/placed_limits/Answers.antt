use Rattle.std.proofs.Common.{sym, subst}
use Rattle.rules.specs.Searching.{UpTo}
use Rattle.rules.proofs.Lowest.{touching_lowest, ahead_lowest}
use Rattle.rules.proofs.limiting.placed_limits.Goals as goal

pub returns-clause-touching : goal.returns-clause-touching
returns-clause-touching g c = subst (UpTo _) (sym c.touching_limit.ensures) (touching_lowest c.args.place.now c.args.line.now.restrictions.now)

pub returns-clause-ahead : goal.returns-clause-ahead
returns-clause-ahead g c =
    let book = c.args.book.now in
    let line = c.args.line.now in
    subst (UpTo _) (sym c.ahead_limit.ensures)
    (ahead_lowest (g.B.BrakingBook.emergencies book) (g.B.BrakingBook.services book) (g.B.BrakingBook.laws book) line.gradients.now c.args.place.now line.restrictions.now)
