use Rattle.driving.specs.Journeys.{stands}
use Rattle.sheet.specs.Faults.{step_fault}
use Rattle.sheet.specs.States.{running_heading, pass_of, passed_of, book_of, journey_of}
use Rattle.sheet.proofs.Journeys.{row_long, no_step_fault, stepped}
use Rattle.sheet.proofs.running.RunningSheet.step.Goals as goal

pub returns : goal.returns
returns g c =
    let E = g.B.BrakingBook.emergencies (book_of (passed_of c.args.self.now)) in
    let heading = running_heading c.args.self.now in
    let pass = pass_of (passed_of c.args.self.now) in
    let line = c.in_ok-intervals.ensures in
    let way = c.in_ok-way.ensures in
    let fault = step_fault heading c.args.intervals.now c.args.gradients.now c.args.row_table.now pass in
    stepped E g.T.Train.numbers fault (stands (journey_of g.T.Train.numbers c.args.self.now)) c.args.self.now c.go_on.new.self c.args.intervals.now c.in_ok-intervals.intervals.now
    c.args.gradients.now c.args.row_table.now c.in_ok-way.way c.go_on.result
    (no_step_fault heading c.args.intervals.now c.args.gradients.now c.args.row_table.now pass line.0 way.0) line.1 way.1
    (row_long heading c.args.intervals.now c.args.gradients.now c.args.row_table.now pass way.0) c.go_on.ensures
