use Rattle.rows.specs.Passing.{codes_of}
use Rattle.driving.specs.Driving.{track_over, under_way}
use Rattle.driving.proofs.Steps.{moves_unheard, moves_heard}
use Rattle.driving.proofs.moving.advance.Goals as goal

pub returns-in-None : goal.returns-in-None
returns-in-None g c restrictions mark reaches =
    let gradients = c.args.gradients.now in
    moves_unheard (track_over c.args.start c.args.intervals.now gradients restrictions) mark (g.B.BrakingBook.emergencies c.args.book.now) (codes_of c.args.row.now)
    (under_way c.args.head (g.T.Train.numbers c.args.train.now)) c.next_position.result (g.T.Train.numbers c.roll_from.new.train)
    c.next_position.ensures c.roll_from.ensures (c.in-None.ensures gradients restrictions mark reaches)

pub returns-in-Some : goal.returns-in-Some
returns-in-Some g c restrictions mark reaches =
    let gradients = c.args.gradients.now in
    moves_heard (track_over c.args.start c.args.intervals.now gradients restrictions) mark (g.B.BrakingBook.emergencies c.args.book.now) (codes_of c.args.row.now)
    (under_way c.args.head (g.T.Train.numbers c.args.train.now)) c.next_position.result (g.T.Train.numbers c.roll_from.new.train)
    c.next_position.ensures c.roll_from.ensures c.in-Some.told (g.T.Train.numbers c.hear_at.new.train)
    (c.in-Some.ensures gradients restrictions mark reaches) c.hear_at.ensures
