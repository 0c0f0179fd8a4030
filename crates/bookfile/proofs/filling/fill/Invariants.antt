use Rattle.std.proofs.Common.{◌≡◌, ◌-◌, length}
use Rattle.bookfile.proofs.Sofar.{Sofar}
use Rattle.bookfile.proofs.filling.fill.Given as goal

abbrev pub invariant-records : goal.invariant-records
invariant-records l = (l.reader.file.now ≡ l.file) × Sofar l.file l.reader.place l.table

abbrev pub decreases-records : goal.decreases-records
decreases-records l = length l.reader.file.now - l.reader.place
