use Rattle.std.proofs.Common.{◌≡◌, length}
use Rattle.rules.specs.Searching.{highest}
use Rattle.rules.proofs.Descent.{found_in}
use Rattle.rules.proofs.searching.tried_downward.Given as goal

-- what is left of the speeds has the answer
abbrev pub invariant-loop-speed : goal.invariant-loop-speed
invariant-loop-speed g l = found_in (g.T.SpeedTest.passed l.test) l.rest ≡ highest (g.T.SpeedTest.passed l.test)

abbrev pub decreases-loop-speed : goal.decreases-loop-speed
decreases-loop-speed g l = length l.rest
