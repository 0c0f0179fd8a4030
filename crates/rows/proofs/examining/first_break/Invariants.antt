use Rattle.std.proofs.Common.{◌≡◌, suc, ◌+◌, length, get_or}
use Rattle.codes.specs.declared.speeds.Code.TheVariants.{Stop}
use Rattle.rows.specs.Targets.{track_of, mark_of}
use Rattle.rows.specs.Passing.{Stage, codes_of}
use Rattle.rows.specs.Examining.{Known}
use Rattle.rows.proofs.examining.first_break.Given as goal

-- the intervals behind that of the pass were looked at
abbrev pub invariant-loop-byte : goal.invariant-loop-byte
invariant-loop-byte g l = record {
  stage : Stage l.survey.line l.survey.target (g.B.BrakingBook.emergencies l.survey.book.now) (g.B.BrakingBook.services l.survey.book.now) l.pass;
  at : l.pass.interval + length l.yielded ≡ length l.row;
  known : Known (track_of l.survey.line) (mark_of l.survey.target) (g.B.BrakingBook.emergencies l.survey.book.now) (g.B.BrakingBook.services l.survey.book.now) l.approach (codes_of l.row) (suc l.pass.interval) l.found;
  next : l.pass.next ≡ get_or (codes_of l.row) l.pass.interval Stop;
}
