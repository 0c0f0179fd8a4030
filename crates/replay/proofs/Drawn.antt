-- What is read in the lent parts of the tables stands in the tables. Assumes nothing.
use Rattle.std.proofs.Common.{◌≡◌, ◌≤◌, false, length, arith}
use Rattle.std.proofs.lemmas.Bool.Decides.{nat_tests}
use Rattle.sheet.specs.Sheets.{Heading, Tables, drawn}
use Rattle.sheet.specs.Faults.{lent_short}
use Rattle.runs.specs.Orders.{Lent, lent_tables}
use Rattle.replay.proofs.Parts.{contents_part}

record Fits (h : Heading) (t : Tables) : Type 0 where
  intervals : h.intervals ≤ length t.intervals
  gradients : h.gradients ≤ length t.gradients
  restrictions : h.restrictions ≤ length t.restrictions
  marks : h.marks ≤ length t.marks

fits : (h : Heading) (t : Tables) → lent_short h t ≡ false → Fits h t
fits h t e = record { intervals = grind (arith, nat_tests); gradients = grind (arith, nat_tests); restrictions = grind (arith, nat_tests); marks = grind (arith, nat_tests) }

pub drawn_part : (lent : Lent) (h : Heading) (t : Tables) → lent_short h (lent_tables lent t) ≡ false → drawn h (lent_tables lent t) ≡ drawn h t
drawn_part lent h t e =
    let all = fits h (lent_tables lent t) e in
    let i = contents_part lent.intervals t.intervals h.intervals all.intervals in
    let g = contents_part lent.gradients t.gradients h.gradients all.gradients in
    let r = contents_part lent.restrictions t.restrictions h.restrictions all.restrictions in
    let m = contents_part lent.marks t.marks h.marks all.marks in
    cc
