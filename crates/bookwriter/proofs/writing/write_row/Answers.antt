use Rattle.codes.specs.declared.speeds.Code.TheVariants.{Stop}
use Rattle.bookwriter.specs.Writing.{row}
use Rattle.bookwriter.proofs.Joins.{sofar_none, sofar_room, sofar_more, sofar_all}
use Rattle.bookwriter.proofs.writing.write_row.Goals as goal

pub loop-to-init : goal.loop-to-init
unfolding row
loop-to-init g c = sofar_none c.requires

pub write_emergency-requires : goal.write_emergency-requires
write_emergency-requires g c = sofar_room c.loop-to.invariant Stop c.loop-to-test.true

pub loop-to-preserved : goal.loop-to-preserved
loop-to-preserved g c = sofar_more c.loop-to.invariant Stop c.loop-to-test.true c.write_emergency.ensures

pub returns : goal.returns
unfolding row
returns g c = sofar_all c.loop-to.invariant c.loop-to-test.false
