-- What judging a row that is submitted answers. Assumes nothing.
--     Fixes .. fixed      the row passes, for this mark and this approach code
--     Judged short .. r   r is what the pass fixes, or the first refusal that is due
use Rattle.std.specs.Prelude.{◌≡◌, ℕ, Bool, true, false, List, [], Ok, Err, Result}
use Rattle.codes.specs.declared.refusals.Refusal.{Refusal}
use Rattle.codes.specs.Refusals.{notice}
use Rattle.laws.specs.Books.{Emergencies, Services}
use Rattle.rows.specs.Drawings.{Drawing}
use Rattle.rows.specs.Examining.{Passed, Failed}
use Rattle.sheet.specs.declared.fixed.Fixed.{Fixed}

pub record Fixes (drawing : Drawing) (mark approach : ℕ) (E : Emergencies) (D : Services) (row : List ℕ) (fixed : Fixed) : Type 0 where
  pub pass : Passed drawing mark approach E D row
  pub target : pass.target ≡ fixed.target
  pub speed : pass.speed ≡ fixed.approach

-- whether a table is lent under its count goes first
abbrev pub Judged : Bool → Drawing → ℕ → ℕ → Emergencies → Services → List ℕ → Result Fixed Refusal → Type 0
Judged true drawing mark approach E D row (Ok fixed) = ⊥
Judged true drawing mark approach E D row (Err why) = notice why ≡ (10, [])
Judged false drawing mark approach E D row (Ok fixed) = Fixes drawing mark approach E D row fixed
Judged false drawing mark approach E D row (Err why) = Failed drawing mark approach E D row (notice why)
