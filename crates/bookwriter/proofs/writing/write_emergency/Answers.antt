use Rattle.std.proofs.Common.{length, ap, arith, subst}
use Rattle.bookwriter.specs.Writing.{Puts}
use Rattle.bookwriter.proofs.Joins.{asked_given, asked_refused, puts_none}
use Rattle.bookwriter.proofs.writing.write_emergency.Goals as goal

pub put-requires : goal.put-requires
put-requires g c =
    let bytes = asked_given (g.B.BrakingBook.emergencies c.args.book.now) (g.B.BrakingBook.services c.args.book.now) c.args.class c.args.from c.args.to
    c.emergency_record.ensures c.in-Ok.ensures in
    let size = ap length bytes in
    omega (arith, c.requires)

pub returns-in-Ok : goal.returns-in-Ok
returns-in-Ok g c =
    let bytes = asked_given (g.B.BrakingBook.emergencies c.args.book.now) (g.B.BrakingBook.services c.args.book.now) c.args.class c.args.from c.args.to
    c.emergency_record.ensures c.in-Ok.ensures in
    subst (λ bs. Puts c.args.writer.now bs c.put.new.self) bytes c.put.ensures

pub returns-in_default : goal.returns-in_default
returns-in_default g c =
    let none = asked_refused (g.B.BrakingBook.emergencies c.args.book.now) (g.B.BrakingBook.services c.args.book.now) c.args.class c.args.from c.args.to
    c.in_default.ensures in
    subst (λ bs. Puts c.args.writer.now bs c.args.writer.now) none (puts_none c.args.writer.now)
