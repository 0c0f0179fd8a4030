-- Where a table has a gap. Assumes nothing.
use Rattle.std.proofs.Common.{◌≡◌, ℕ, zero, suc, ◌<◌, ◌≤◌, true, false, eqb, List, [], ◌∷◌, length, get_or, inl, inr, arith, eqb-true}
use borrow.Author.Tests.{eqb-false}
use Rattle.std.proofs.lemmas.Bool.{or_cases, or_parts}
use Rattle.bookfile.specs.Entering.{has_gap}

-- the place of a gap
pub gap_place : (xs : List ℕ) → has_gap xs ≡ true → (i : ℕ) × ((i < length xs) × (get_or xs i 0 ≡ 0))
gap_place [] e = absurd (let z : ◌≡◌ {A = ℕ} 0 1 = cc in omega arith)
gap_place (x ∷ xs) e =
    elim (or_cases (eqb x 0) (has_gap xs) e) [
      | inl here ↦ (0, (omega arith, eqb-true x 0 here))
      | inr further ↦ let found = gap_place xs further in (suc found.0, (omega arith, found.1.1))
    ]

-- a table without a gap has a figure at each place
pub gapless : (xs : List ℕ) → has_gap xs ≡ false → (i : ℕ) → i < length xs → 1 ≤ get_or xs i 0
gapless [] e i l = absurd (omega arith)
gapless (x ∷ xs) e zero l = let n = eqb-false x 0 (or_parts (eqb x 0) (has_gap xs) e).0 in omega arith
gapless (x ∷ xs) e (suc i) l = gapless xs (or_parts (eqb x 0) (has_gap xs) e).1 i (omega arith)
