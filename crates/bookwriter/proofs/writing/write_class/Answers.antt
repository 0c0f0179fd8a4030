use Rattle.std.proofs.Common.{◌≤◌, length, arith}
use Rattle.bookwriter.specs.Writing.{emergencies_of, services_of}
use Rattle.bookwriter.proofs.Joins.{writes_both, room_first, room_then}
use Rattle.bookwriter.proofs.writing.write_class.Goals as goal

pub write_emergencies-requires : goal.write_emergencies-requires
write_emergencies-requires g c =
    room_first (g.B.BrakingBook.emergencies c.args.book.now) (g.B.BrakingBook.services c.args.book.now) c.args.writer.now (emergencies_of c.args.class) (services_of c.args.class) c.requires

pub write_services-requires : goal.write_services-requires
write_services-requires g c =
    room_then (g.B.BrakingBook.emergencies c.args.book.now) (g.B.BrakingBook.services c.args.book.now) (emergencies_of c.args.class) (services_of c.args.class) c.requires c.write_emergencies.ensures

pub returns : goal.returns
returns g c =
    let within : c.args.writer.now.place ≤ length c.args.writer.now.buffer.now = let room = c.requires in omega arith in
    writes_both (g.B.BrakingBook.emergencies c.args.book.now) (g.B.BrakingBook.services c.args.book.now) (emergencies_of c.args.class) (services_of c.args.class) within c.write_emergencies.ensures c.write_services.ensures
