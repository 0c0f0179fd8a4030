use Rattle.std.proofs.Common.{sym, refl, arith}
use Rattle.std.proofs.lemmas.Bool.Decides.{nat_tests}
use Rattle.sheet.proofs.Passes.{row_bounded, submitted, not_submitted}
use Rattle.sheet.proofs.closed.ClosedSheet.submit.Goals as goal

pub copy_row-requires : goal.copy_row-requires
copy_row-requires g c =
    let book = c.args.book.now in
    let short = row_bounded c.args.mark c.args.approach (g.B.BrakingBook.emergencies book) (g.B.BrakingBook.services book) c.args.row.now _ _ c.in-Ok.fixed c.in-Ok.ensures in
    let long = c.if-is_row_short.ensures in
    grind (arith, nat_tests)

pub returns-in-Err : goal.returns-in-Err
returns-in-Err g c =
    let book = c.args.book.now in
    not_submitted c.args.mark c.args.approach (g.B.BrakingBook.emergencies book) (g.B.BrakingBook.services book) c.args.row.now book _ _ _ c.args.self c.args.row_table.now _
    (sym c.if-is_row_short.ensures) c.in-Err.ensures

pub returns-in-Ok : goal.returns-in-Ok
returns-in-Ok g c =
    let book = c.args.book.now in
    submitted c.args.mark c.args.approach (g.B.BrakingBook.emergencies book) (g.B.BrakingBook.services book) c.args.row.now book _ _ _ c.args.self c.args.row_table.now _ _
    (sym c.if-is_row_short.ensures) c.in-Ok.ensures refl refl c.copy_row.ensures
