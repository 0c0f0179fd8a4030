use Rattle.codes.specs.Gradients.{classes}
use Rattle.bookwriter.specs.Writing.{of_class}
use Rattle.bookwriter.proofs.Joins.{Sofar}
use Rattle.bookwriter.proofs.writing.write_classes.Given as goal

abbrev pub invariant-loop-class : goal.invariant-loop-class
invariant-loop-class g l =
    Sofar (g.B.BrakingBook.emergencies l.book) (g.B.BrakingBook.services l.book) of_class classes l.initial.writer l.class-index l.writer
