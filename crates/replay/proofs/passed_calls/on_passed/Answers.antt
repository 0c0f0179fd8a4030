use Rattle.std.proofs.Common.{Ok, Err, refl, ap}
use Rattle.sheet.specs.States.{book_of}
use Rattle.sheet.specs.Promises.{tables_of}
use Rattle.replay.specs.Meaning.{lent_of}
use Rattle.replay.specs.declared.calls.Action.TheVariants.{SetOff}
use Rattle.replay.proofs.Ruling.{acted}
use Rattle.replay.proofs.Riding.{sets_off, sets_off_not, by_parts, outcome_at}
use Rattle.replay.proofs.passed_calls.on_passed.Goals as goal

pub returns-in-Ok : goal.returns-in-Ok
returns-in-Ok g c =
    let E = g.B.BrakingBook.emergencies (book_of c.args.sheet) in
    let numbers = g.T.Train.numbers in
    let lent = lent_of c.args.call.lent in
    record {
      made = λ D.
          let tables = tables_of c.args.whole.now c.args.row_table.now in
          acted numbers c.args.call (SetOff c.in-SetOff.train) c.in-SetOff.is (ap outcome_at c.report-report.ensures)
          (sets_off E D numbers lent tables c.args.sheet c.in-SetOff.train c.in-Ok.running
          (by_parts E D numbers lent tables c.args.sheet c.in-SetOff.train (Ok c.in-Ok.running) c.part.ensures c.part-in-SetOff.ensures c.in-Ok.ensures));
      by = ap book_of c.in-Ok.ensures.1.passed;
    }

pub returns-in-Err : goal.returns-in-Err
returns-in-Err g c =
    let E = g.B.BrakingBook.emergencies (book_of c.args.sheet) in
    let numbers = g.T.Train.numbers in
    let lent = lent_of c.args.call.lent in
    record {
      made = λ D.
          let tables = tables_of c.args.whole.now c.args.row_table.now in
          acted numbers c.args.call (SetOff c.in-SetOff.train) c.in-SetOff.is refl
          (sets_off_not E D numbers lent tables c.args.sheet c.in-SetOff.train c.in-Err.refused
          (by_parts E D numbers lent tables c.args.sheet c.in-SetOff.train (Err c.in-Err.refused) c.part.ensures c.part-in-SetOff.ensures c.in-Err.ensures));
      by = ap (λ x. book_of x.0) c.in-Err.ensures.1;
    }
