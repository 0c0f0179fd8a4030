use Rattle.std.proofs.Common.{◌≡◌, true, arith, eq-eqb, le-leb}
use Rattle.std.proofs.lemmas.Bool.{and_from}
use Rattle.bookfile.specs.Faults.{sized}
use Rattle.bookfile.proofs.Endings.{read_from_tabled}
use Rattle.bookfile.proofs.reading.taken.Goals as goal

pub returns-in-Some : goal.returns-in-Some
returns-in-Some c =
    let whole = c.in-Some.ensures.cases in
    let size : sized c.args.file.now c.args.table.now ≡ true = and_from _ _ (eq-eqb _ _ whole.long) (le-leb _ _ (omega arith)) in
    read_from_tabled c.args.file.now c.args.table.now size c.filled.result c.filled.ensures.0 c.filled.new.table c.filled.ensures.1 c.filled.ensures.2
