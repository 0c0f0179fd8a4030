use Rattle.std.proofs.Common.{sym, subst}
use Rattle.std.proofs.lemmas.Bool.Decides.{not_from_Decides}
use Rattle.bookfile.specs.Faults.{Tabled}
use Rattle.bookfile.proofs.Endings.{gap_faulty, order_faulty, means_from_filled}
use Rattle.bookfile.proofs.reading.tabled.Goals as goal

pub returns-then-contains : goal.returns-then-contains
returns-then-contains c =
    let filled = c.in_ok-fill.ensures in
    let gap = c.if-contains.ensures.value in
    subst (λ r. Tabled c.args.file.now r c.fill.new.table) (sym c.at.ensures)
    (c.fill.array_long, gap_faulty c.args.file.now c.fill.new.table filled c.fill.array_long (sym gap))

pub returns-then-not-keeps_laws : goal.returns-then-not-keeps_laws
returns-then-not-keeps_laws c =
    let filled = c.in_ok-fill.ensures in
    let full = c.if-contains.ensures.value in
    subst (λ r. Tabled c.args.file.now r c.fill.new.table) (sym c.at-then-not-keeps_laws.ensures) (
      c.fill.array_long,
      order_faulty c.args.file.now c.fill.new.table filled c.fill.array_long (sym full)
          (not_from_Decides _ c.keeps_laws.ensures.laws c.if-not-keeps_laws.true),
    )

pub returns : goal.returns
returns c =
    let filled = c.in_ok-fill.ensures in
    let full = c.if-contains.ensures.value in (
      c.fill.array_long,
      means_from_filled c.args.file.now c.fill.new.table filled c.fill.array_long (sym full)
          c.requires.short (c.keeps_laws.ensures.laws.0 c.if-not-keeps_laws.false),
    )
