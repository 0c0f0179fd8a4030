use Rattle.std.proofs.Common.{sym, arith}
use Rattle.driving.proofs.Tellings.{passed_none, passed_more, passed_due, passed_beyond}
use Rattle.driving.proofs.telling.told_at.Goals as goal

pub loop-place-init : goal.loop-place-init
loop-place-init c = passed_none c.args.start c.args.intervals.now c.args.row.now c.args.head.position c.args.head.told

pub returns-then-sought-begin : goal.returns-then-sought-begin
returns-then-sought-begin c gradients restrictions mark reaches =
    passed_beyond c.args.start c.args.intervals.now c.args.row.now c.args.head.position c.args.head.told gradients restrictions mark reaches
    c.loop-place.place c.loop-place.begin c.loop-place.invariant (omega arith)

pub returns-then-is_told : goal.returns-then-is_told
returns-then-is_told c gradients restrictions mark reaches =
    passed_due c.args.start c.args.intervals.now c.args.row.now c.args.head.position c.args.head.told gradients restrictions mark reaches
    c.loop-place.place c.loop-place.begin c.code_of-code.result c.loop-place.invariant c.loop-place-test.true c.code_of-code.ensures (sym c.if-is_told.ensures)

pub loop-place-preserved : goal.loop-place-preserved
loop-place-preserved c =
    passed_more c.args.start c.args.intervals.now c.args.row.now c.args.head.position c.args.head.told
    c.loop-place.place c.loop-place.begin c.code_of-code.result c.loop-place.invariant c.loop-place-test.true c.code_of-code.ensures
    c.length_at.result c.length_at.ensures (sym c.if-is_told.ensures)
