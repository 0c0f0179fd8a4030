use Rattle.bookfile.proofs.Verdicts.{exactly_from_read}
use Rattle.bookfile.proofs.Reorders.{orderless_from_read}
use Rattle.bookfile.proofs.reading.read.Goals as goal

pub returns : goal.returns
returns c = record {
  read = c.taken.ensures;
  exactly = exactly_from_read c.args.file.now c.args.table.now c.taken.result c.taken.new.table c.taken.ensures;
  reordered = orderless_from_read c.args.file.now c.args.table.now c.taken.result c.taken.new.table c.taken.ensures;
}
