use Rattle.std.proofs.Common.{◌-◌, length}
use Rattle.filechecks.proofs.written.remarks.Given as goal

abbrev pub decreases-loop-item : goal.decreases-loop-item
decreases-loop-item l = length l.reader.file.now - l.reader.place
