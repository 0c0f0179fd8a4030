use Rattle.std.proofs.Common.{Ok, Err, refl, ap}
use Rattle.laws.specs.Books.{Services}
use Rattle.sheet.specs.States.{book_of, passed_of}
use Rattle.sheet.specs.Promises.{tables_of}
use Rattle.replay.specs.Meaning.{lent_of}
use Rattle.replay.specs.declared.calls.Action.TheVariants.{Step}
use Rattle.replay.proofs.Ruling.{acted}
use Rattle.replay.proofs.Riding.{steps, steps_not, stepped_by_parts}
use Rattle.replay.proofs.running_calls.on_running.Goals as goal

pub returns-in-Ok : goal.returns-in-Ok
returns-in-Ok g c =
    let book = book_of (passed_of c.args.sheet) in
    let E = g.B.BrakingBook.emergencies book in
    let numbers = g.T.Train.numbers in
    let lent = lent_of c.args.call.lent in
    let stepped = λ (D : Services).
    (let tables = tables_of c.args.whole.now c.args.row_table.now in
    steps E D numbers lent tables c.args.sheet c.step.new.self c.in-Ok.report
    (stepped_by_parts E D numbers lent tables c.args.sheet (Ok c.in-Ok.report) c.step.new.self c.part-line.ensures c.part-ground.ensures c.part-row.ensures c.in-Ok.ensures)) in
    record {
      made = λ D. acted numbers c.args.call Step c.in-Step.is refl (stepped D).performed;
      by = ap book_of (stepped (g.B.BrakingBook.services book)).passed;
    }

pub returns-in-Err : goal.returns-in-Err
returns-in-Err g c =
    let book = book_of (passed_of c.args.sheet) in
    let E = g.B.BrakingBook.emergencies book in
    let numbers = g.T.Train.numbers in
    let lent = lent_of c.args.call.lent in
    let stepped = λ (D : Services).
    (let tables = tables_of c.args.whole.now c.args.row_table.now in
    steps_not E D numbers lent tables c.args.sheet c.step.new.self c.in-Err.why
    (stepped_by_parts E D numbers lent tables c.args.sheet (Err c.in-Err.why) c.step.new.self c.part-line.ensures c.part-ground.ensures c.part-row.ensures c.in-Err.ensures)) in
    record {
      made = λ D. acted numbers c.args.call Step c.in-Step.is refl (stepped D).performed;
      by = ap book_of (stepped (g.B.BrakingBook.services book)).passed;
    }
