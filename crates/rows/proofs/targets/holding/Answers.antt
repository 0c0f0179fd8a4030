use Rattle.std.proofs.Common.{◌≡◌, ◌+◌, ◌-◌, sym, ap, ◌∙◌, arith}
use Rattle.std.proofs.lemmas.List.{length-map}
use Rattle.std.proofs.lemmas.Bool.Decides.{not_from_Decides}
use Rattle.rules.specs.declared.lines.Interval.{Interval}
use Rattle.rules.specs.Tracks.{moved_on}
use Rattle.rows.specs.Drawings.{lengths_of}
use Rattle.rules.proofs.Moved.{moved_none, moved_rises}
use Rattle.rows.proofs.Positions.{length_at, end_here}
use Rattle.rows.proofs.targets.holding.Goals as goal

pub returns-then-sought-begin : goal.returns-then-sought-begin
returns-then-sought-begin c h first last begins ends =
    let start = moved_none c.args.start (lengths_of c.args.intervals.now) in
    let rises = moved_rises c.args.start (lengths_of c.args.intervals.now) 0 (h - 1) (omega arith) in
    omega arith

pub loop-i-init : goal.loop-i-init
loop-i-init c = (sym (moved_none c.args.start (lengths_of c.args.intervals.now)), omega arith)

pub returns-then-is_not_behind : goal.returns-then-is_not_behind
returns-then-is_not_behind c =
    let intervals = c.args.intervals.now in
    let i = c.loop-i.i in
    let count = length-map intervals (λ (interval : Interval). interval.length) in
    let here = ap (moved_on c.args.start (lengths_of intervals)) (let e : i ≡ i + 1 - 1 = omega arith in e) in
    record {
      first = omega arith;
      last = omega arith;
      begin_is = c.loop-i.invariant.0 ∙ here;
      end_is = end_here c.args.start intervals i c.loop-i.begin _ c.loop-i-test.true c.loop-i.invariant.0 (sym (length_at intervals i _ c.loop-i-test.true));
      begins = c.loop-i.invariant.1;
      ends = c.is_not_behind.ensures.0 c.if-is_not_behind.true;
    }

pub loop-i-preserved : goal.loop-i-preserved
loop-i-preserved c =
    let intervals = c.args.intervals.now in
    let i = c.loop-i.i in
    (end_here c.args.start intervals i c.loop-i.begin _ c.loop-i-test.true c.loop-i.invariant.0 (sym (length_at intervals i _ c.loop-i-test.true)), let behind = not_from_Decides _ c.is_not_behind.ensures c.if-is_not_behind.false in omega arith)

pub returns : goal.returns
returns c h first last begins ends =
    let intervals = c.args.intervals.now in
    let count = length-map intervals (λ (interval : Interval). interval.length) in
    let inv = c.loop-i.invariant in
    let rises = moved_rises c.args.start (lengths_of intervals) h c.loop-i.i (omega arith) in
    omega arith
