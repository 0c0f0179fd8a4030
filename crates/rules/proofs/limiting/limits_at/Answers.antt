use Rattle.rules.proofs.Limited.{caps_at}
use Rattle.rules.proofs.Reading.{readings}
use Rattle.rules.proofs.limiting.limits_at.Goals as goal

pub returns : goal.returns
returns g c =
    let book = c.args.book.now in
    let line = c.args.line.now in
    let made = c.placed_limits.ensures in
    record {
      caps =
          λ track mark j.
          caps_at (g.B.BrakingBook.emergencies book) (g.B.BrakingBook.services book) c.placed_limits.result track mark j line.gradients.now line.restrictions.now c.args.place.now
          (record { touching = made.touching; ahead = made.ahead; service = made.service; stopping = made.stopping });
      readings = readings;
    }
