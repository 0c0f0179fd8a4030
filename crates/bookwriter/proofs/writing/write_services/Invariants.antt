use Rattle.std.proofs.Common.{[], ◌∷◌}
use Rattle.laws.specs.Questions.{service}
use Rattle.codes.specs.Speeds.{speeds}
use Rattle.bookwriter.proofs.Joins.{Sofar}
use Rattle.bookwriter.proofs.writing.write_services.Given as goal

abbrev pub invariant-loop-from : goal.invariant-loop-from
invariant-loop-from g l =
    Sofar (g.B.BrakingBook.emergencies l.book) (g.B.BrakingBook.services l.book) (λ from. service l.class from ∷ []) speeds
    l.initial.writer l.from-index l.writer
