use Rattle.codes.specs.declared.speeds.Speed.TheVariants.{V30}
use Rattle.bookwriter.specs.Writing.{emergencies_of}
use Rattle.bookwriter.proofs.Joins.{sofar_none, sofar_room, sofar_more, sofar_all}
use Rattle.bookwriter.proofs.writing.write_emergencies.Goals as goal

pub loop-from-init : goal.loop-from-init
unfolding emergencies_of
loop-from-init g c = sofar_none c.requires

pub write_row-requires : goal.write_row-requires
write_row-requires g c = sofar_room c.loop-from.invariant V30 c.loop-from-test.true

pub loop-from-preserved : goal.loop-from-preserved
loop-from-preserved g c = sofar_more c.loop-from.invariant V30 c.loop-from-test.true c.write_row.ensures

pub returns : goal.returns
unfolding emergencies_of
returns g c = sofar_all c.loop-from.invariant c.loop-from-test.false
