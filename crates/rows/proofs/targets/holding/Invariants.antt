use Rattle.std.proofs.Common.{◌≡◌, ◌<◌}
use Rattle.rules.specs.Tracks.{moved_on}
use Rattle.rows.specs.Drawings.{lengths_of}
use Rattle.rows.proofs.targets.holding.Given as goal

abbrev pub invariant-loop-i : goal.invariant-loop-i
invariant-loop-i l = (l.begin ≡ moved_on l.start (lengths_of l.intervals) l.i) × (l.begin < l.position)
