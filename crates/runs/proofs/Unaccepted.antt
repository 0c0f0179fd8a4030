-- What is not accepted leaves the history as it was, and a refusal is not. Assumes nothing.
use Rattle.std.proofs.Common.{◌≡◌, ℕ, false, List, arith}
use Rattle.runs.specs.Orders.{Order, Outcome, accepted, refusing}
use Rattle.runs.specs.Law.{WorkedRow, rows_after, sought_after}

-- ---- the rows worked out, and the mark sought
pub rows_same : (rows : List WorkedRow) (order : Order) (o : Outcome) → accepted o ≡ false → rows_after rows order o ≡ rows
rows_same rows order o denied = grind arith

pub sought_same : (sought : ℕ) (order : Order) (o : Outcome) → accepted o ≡ false → sought_after sought order o ≡ sought
sought_same sought order o denied = grind arith

-- ---- a refusal is no acceptance
pub not_accepted : (order : Order) (n : ℕ × List ℕ) → accepted (refusing order n) ≡ false
not_accepted order n = grind arith
