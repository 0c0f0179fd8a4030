use Rattle.std.proofs.Common.{◌≡◌, ◌+◌, ◌≤◌, ◌++◌, length, vec_items, vec_len, vec_capacity}
use Rattle.std.specs.Vec.Iter.{into_iter_items}
use Rattle.replay.specs.Meaning.{five_tables, sheet_of, By}
use Rattle.replay.proofs.Replays.{Sofar}
use Rattle.replay.proofs.replaying.replay.Given as goal

abbrev pub invariant-loop-call : goal.invariant-loop-call
invariant-loop-call g l =
    (goal.iterator-loop-call g).can_next l.call-iterator ×
    (goal.iterator-loop-call g).is_finite l.call-iterator ×
    (l.yielded ++ into_iter_items l.call-iterator ≡ into_iter_items l.initial.call-iterator) ×
    (vec_len l.answers + length (into_iter_items l.call-iterator) ≤ vec_capacity l.answers) ×
    By l.book l.sheet ×
    Sofar (g.B.BrakingBook.emergencies l.book) (g.B.BrakingBook.services l.book) g.T.Train.numbers
    (sheet_of g.T.Train.numbers l.initial.sheet (five_tables l.initial.intervals l.initial.gradients l.initial.restrictions l.initial.marks l.initial.row_table))
    l.yielded (vec_items l.answers)
    (sheet_of g.T.Train.numbers l.sheet (five_tables l.intervals l.gradients l.restrictions l.marks l.row_table))
