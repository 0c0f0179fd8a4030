use Rattle.std.proofs.Common.{◌≡◌, [], length, drop, vec_items, vec_len, refl, ap, arith}
use Rattle.std.proofs.lemmas.List.{take_at}
use Rattle.codes.specs.Refusals.{notice}
use Rattle.runs.specs.Orders.{worked, unworked}
use Rattle.sheet.specs.Promises.{tables_of}
use Rattle.replay.specs.Meaning.{lent_of}
use Rattle.replay.specs.declared.calls.Action.TheVariants.{WorkOut, Submit}
use Rattle.replay.proofs.Ruling.{acted}
use Rattle.replay.proofs.WorkedOut.{works_out, works_out_not}
use Rattle.replay.proofs.Submitting.{submits, submits_not}
use Rattle.replay.proofs.closed_calls.on_closed.Goals as goal

pub returns-in-Ok : goal.returns-in-Ok
returns-in-Ok g c =
    let book = c.args.book.now in
    let tables = tables_of c.args.whole.now c.args.row_table.now in
    let row = c.work_out.new.row in
    let long : length row ≡ vec_len c.in-WorkOut.bytes = omega arith in
    record {
      made = acted g.T.Train.numbers c.args.call (WorkOut c.in-WorkOut.mark c.in-WorkOut.approach c.in-WorkOut.bytes) c.in-WorkOut.is
          (ap (λ xs. worked xs c.in-Ok.letter c.in-Ok.place) (take_at row (drop (length row) (vec_items c.in-WorkOut.bytes)) (vec_len c.in-WorkOut.bytes) long))
          (works_out (g.B.BrakingBook.emergencies book) (g.B.BrakingBook.services book) (lent_of c.args.call.lent) tables c.args.sheet
          c.in-WorkOut.mark c.in-WorkOut.approach (vec_items c.in-WorkOut.bytes) (tables_of c.lent_parts-lent.result []) c.as_mut_slice.result.now
          (c.lent_parts-lent.ensures c.args.row_table.now) c.as_mut_slice.ensures.value (c.in-Ok.letter, c.in-Ok.place) row (let same = ap length c.as_mut_slice.ensures.value in omega arith) c.in-Ok.ensures);
      by = tt;
    }

pub returns-in-Err : goal.returns-in-Err
returns-in-Err g c =
    let book = c.args.book.now in
    let tables = tables_of c.args.whole.now c.args.row_table.now in
    let row = c.work_out.new.row in
    let long : length row ≡ vec_len c.in-WorkOut.bytes = omega arith in
    record {
      made = acted g.T.Train.numbers c.args.call (WorkOut c.in-WorkOut.mark c.in-WorkOut.approach c.in-WorkOut.bytes) c.in-WorkOut.is
          (ap (λ xs. unworked xs (notice c.in-Err.why)) (take_at row (drop (length row) (vec_items c.in-WorkOut.bytes)) (vec_len c.in-WorkOut.bytes) long))
          (works_out_not (g.B.BrakingBook.emergencies book) (g.B.BrakingBook.services book) (lent_of c.args.call.lent) tables c.args.sheet
          c.in-WorkOut.mark c.in-WorkOut.approach (vec_items c.in-WorkOut.bytes) (tables_of c.lent_parts-lent.result []) c.as_mut_slice.result.now
          (c.lent_parts-lent.ensures c.args.row_table.now) c.as_mut_slice.ensures.value c.in-Err.why row c.in-Err.ensures);
      by = tt;
    }

pub returns-in-Ok-submit : goal.returns-in-Ok-submit
returns-in-Ok-submit g c =
    let book = c.args.book.now in
    let tables = tables_of c.args.whole.now c.args.row_table.now in
    let done = submits book (g.B.BrakingBook.emergencies book) (g.B.BrakingBook.services book) (lent_of c.args.call.lent) tables c.args.sheet
    c.in-Submit.mark c.in-Submit.approach (vec_items c.in-Submit.row) (tables_of c.lent_parts-lent.result []) c.as_slice.result.now c.min-room.result
    (c.lent_parts-lent.ensures c.args.row_table.now) c.as_slice.ensures.value (omega arith) c.in-Ok-submit.passed c.submit.new.row_table c.in-Ok-submit.ensures in
    record {
      made = acted g.T.Train.numbers c.args.call (Submit c.in-Submit.mark c.in-Submit.approach c.in-Submit.row) c.in-Submit.is refl done.0;
      by = done.1;
    }

pub returns-in-Err-submit : goal.returns-in-Err-submit
returns-in-Err-submit g c =
    let book = c.args.book.now in
    let tables = tables_of c.args.whole.now c.args.row_table.now in
    record {
      made = acted g.T.Train.numbers c.args.call (Submit c.in-Submit.mark c.in-Submit.approach c.in-Submit.row) c.in-Submit.is refl
          (submits_not book (g.B.BrakingBook.emergencies book) (g.B.BrakingBook.services book) (lent_of c.args.call.lent) tables c.args.sheet
          c.in-Submit.mark c.in-Submit.approach (vec_items c.in-Submit.row) (tables_of c.lent_parts-lent.result []) c.as_slice.result.now c.min-room.result
          (c.lent_parts-lent.ensures c.args.row_table.now) c.as_slice.ensures.value (omega arith) c.in-Err-submit.refused c.submit.new.row_table c.in-Err-submit.ensures);
      by = tt;
    }
