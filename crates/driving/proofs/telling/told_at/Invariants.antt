use Rattle.driving.proofs.Tellings.{Passed}
use Rattle.driving.proofs.telling.told_at.Given as goal

-- the intervals before the place were looked at
abbrev pub invariant-loop-place : goal.invariant-loop-place
invariant-loop-place l = Passed l.start l.intervals l.row l.head.position l.head.told l.place l.begin
