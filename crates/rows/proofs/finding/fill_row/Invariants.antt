use Rattle.std.proofs.Common.{◌≡◌, get_or}
use Rattle.codes.specs.declared.speeds.Code.TheVariants.{Stop}
use Rattle.rows.specs.Targets.{track_of, mark_of}
use Rattle.rows.specs.Finding.{FoundFrom}
use Rattle.rows.specs.Passing.{Stage, codes_of}
use Rattle.rows.specs.WorkingOut.{Spells}
use Rattle.rows.proofs.finding.fill_row.Given as goal

-- the intervals behind the i-th have their codes
abbrev pub invariant-loop-i : goal.invariant-loop-i
invariant-loop-i g l = record {
  stage : Stage l.survey.line l.survey.target (g.B.BrakingBook.emergencies l.survey.book.now) (g.B.BrakingBook.services l.survey.book.now) l.pass;
  at : l.pass.interval ≡ l.i;
  found : FoundFrom (track_of l.survey.line) (mark_of l.survey.target) (g.B.BrakingBook.emergencies l.survey.book.now) (g.B.BrakingBook.services l.survey.book.now) l.i (codes_of l.row);
  next : l.pass.next ≡ get_or (codes_of l.row) l.i Stop;
  spelt : Spells l.i l.row;
}
