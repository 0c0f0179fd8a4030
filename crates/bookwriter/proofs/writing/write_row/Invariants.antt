use Rattle.codes.specs.Speeds.{codes}
use Rattle.bookwriter.specs.Writing.{asked}
use Rattle.bookwriter.proofs.Joins.{Sofar}
use Rattle.bookwriter.proofs.writing.write_row.Given as goal

abbrev pub invariant-loop-to : goal.invariant-loop-to
invariant-loop-to g l = Sofar (g.B.BrakingBook.emergencies l.book) (g.B.BrakingBook.services l.book) (asked l.class l.from) codes l.initial.writer l.to-index l.writer
