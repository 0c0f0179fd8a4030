use Rattle.std.proofs.Common.{length, get_or, ap, arith, subst}
use Rattle.codes.specs.declared.speeds.Speed.TheVariants.{V30}
use Rattle.codes.specs.Speeds.{speeds}
use Rattle.bookwriter.specs.Writing.{services_of, Puts}
use Rattle.bookwriter.proofs.Joins.{service_given, sofar_none, sofar_room, sofar_more, sofar_all}
use Rattle.bookwriter.proofs.writing.write_services.Goals as goal

pub loop-from-init : goal.loop-from-init
unfolding services_of
loop-from-init g c = sofar_none c.requires

pub put-requires : goal.put-requires
put-requires g c =
    let bytes = service_given (g.B.BrakingBook.emergencies c.args.book.now) (g.B.BrakingBook.services c.args.book.now) c.args.class
    (get_or speeds c.loop-from.from-index V30) c.service_record.ensures c.service.ensures in
    let size = ap length bytes in
    let room = sofar_room c.loop-from.invariant V30 c.loop-from-test.true in
    omega arith

pub loop-from-preserved : goal.loop-from-preserved
loop-from-preserved g c =
    let bytes = service_given (g.B.BrakingBook.emergencies c.args.book.now) (g.B.BrakingBook.services c.args.book.now) c.args.class
    (get_or speeds c.loop-from.from-index V30) c.service_record.ensures c.service.ensures in
    sofar_more c.loop-from.invariant V30 c.loop-from-test.true (subst (λ bs. Puts c.loop-from.writer bs c.put.new.self) bytes c.put.ensures)

pub returns : goal.returns
unfolding services_of
returns g c = sofar_all c.loop-from.invariant c.loop-from-test.false
