use Rattle.replay.proofs.performing.perform.Goals as goal

pub returns-in-Open : goal.returns-in-Open
returns-in-Open g c = record {
  made = rw c.in-Open.is (c.on_open.ensures.made (g.B.BrakingBook.emergencies c.args.book.now) (g.B.BrakingBook.services c.args.book.now) c.args.row_table.now);
  by = c.on_open.ensures.by c.args.book.now;
}
