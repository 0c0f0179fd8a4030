use Rattle.sheet.specs.States.{book_of}
use Rattle.sheet.proofs.Journeys.{runs_over}
use Rattle.sheet.proofs.passed.PassedSheet.set_off.Goals as goal

pub returns-in-Ok : goal.returns-in-Ok
returns-in-Ok g c =
    let E = g.B.BrakingBook.emergencies (book_of c.args.self) in (
      c.in-Ok.ensures.0,
      runs_over E g.T.Train.numbers c.args.gradients.now _ c.args.row_table.now _
          c.depart-head.result c.depart-head.new.train c.args.self c.args.train c.code_in-first.result
          c.in-Ok.ensures.1.ground c.in-Ok.ensures.1.bytes c.code_in-first.ensures c.depart-head.ensures,
    )
