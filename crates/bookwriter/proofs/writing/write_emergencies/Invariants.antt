use Rattle.codes.specs.Speeds.{speeds}
use Rattle.bookwriter.specs.Writing.{row}
use Rattle.bookwriter.proofs.Joins.{Sofar}
use Rattle.bookwriter.proofs.writing.write_emergencies.Given as goal

abbrev pub invariant-loop-from : goal.invariant-loop-from
invariant-loop-from g l = Sofar (g.B.BrakingBook.emergencies l.book) (g.B.BrakingBook.services l.book) (row l.class) speeds l.initial.writer l.from-index l.writer
