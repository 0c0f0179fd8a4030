use Rattle.std.proofs.Common.{◌++◌, length, vec_items, sym, refl, ap, ◌∙◌, append_assoc, arith}
use Rattle.std.specs.Vec.Iter.{into_iter_items}
use Rattle.replay.specs.Meaning.{five_tables}
use Rattle.runs.proofs.Determined.{determined}
use Rattle.replay.proofs.Replays.{sofar_none, sofar_more, replayed}
use Rattle.replay.proofs.replaying.replay.Goals as goal

pub returns-in_err-blank_sheet-clause-determined : goal.returns-in_err-blank_sheet-clause-determined
returns-in_err-blank_sheet-clause-determined g c =
    let book = c.args.book.now in
    determined (g.B.BrakingBook.emergencies book) (g.B.BrakingBook.services book)

pub returns-in_err-answers-clause-determined : goal.returns-in_err-answers-clause-determined
returns-in_err-answers-clause-determined g c =
    let book = c.args.book.now in
    determined (g.B.BrakingBook.emergencies book) (g.B.BrakingBook.services book)

pub loop-call-init : goal.loop-call-init
loop-call-init g c =
    let none = c.in_ok-answers.ensures.items in
    let room = c.in_ok-answers.ensures.capacity in
    let short = c.in_ok-answers.ensures.len in
    let all = ap length c.into_iter-call-iterator.ensures.into_iter_gives.0 in
    (tt, tt, refl, omega arith, tt, rw none sofar_none)

pub loop-call-preserved : goal.loop-call-preserved
loop-call-preserved g c =
    let inv = c.loop-call.invariant in
    let one = c.in-Some.ensures.steps.0 in
    let fewer = ap length one in
    let pushed = c.push_reserved.ensures.len in
    let room = c.push_reserved.ensures.capacity in (
      tt,
      tt,
      append_assoc c.loop-call.yielded _ _ ∙ ap (λ xs. c.loop-call.yielded ++ xs) (sym one) ∙ inv.2,
      omega arith,
      c.perform-after.ensures.by,
      sofar_more c.loop-call.yielded (vec_items c.loop-call.answers) (vec_items c.push_reserved.new.self) c.in-Some.call c.perform-after.result.1
          inv.5 c.perform-after.ensures.made c.push_reserved.ensures.items,
    )

pub returns : goal.returns
returns g c =
    let book = c.args.book.now in
    let inv = c.loop-call.invariant in
    let blank = c.in_ok-blank_sheet.ensures in
    let none = sym c.in-None.ensures.steps.0 ∙ c.loop-call.call-iterator.rest.ok.0 in
    record {
      replays = replayed (g.B.BrakingBook.emergencies book) (g.B.BrakingBook.services book) (g.B.BrakingBook.distances book) (g.B.BrakingBook.laws book) g.T.Train.numbers c.args.start
          (five_tables c.args.intervals.now c.args.gradients.now c.args.restrictions.now c.args.marks.now c.args.row_table.now)
          (five_tables c.loop-call.intervals c.loop-call.gradients c.loop-call.restrictions c.loop-call.marks c.loop-call.row_table)
          c.in_ok-blank_sheet.field-0 (vec_items c.args.calls) c.loop-call.yielded (into_iter_items c.loop-call.call-iterator) (record { answers = c.loop-call.answers; sheet = c.loop-call.sheet })
          blank.0 blank.1 (inv.2 ∙ c.into_iter-call-iterator.ensures.into_iter_gives.0) (sym none) inv.5;
      determined = determined (g.B.BrakingBook.emergencies book) (g.B.BrakingBook.services book);
    }
