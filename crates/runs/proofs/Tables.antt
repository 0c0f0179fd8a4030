-- Tables that keep their size as records are entered, struck and lent. Assumes nothing.
use Rattle.std.proofs.Common.{◌≡◌, ℕ, ◌+◌, ◌-◌, ◌<◌, ◌≤◌, min, false, List, length, take, drop, set, None, arith}
use Rattle.std.specs.List.{remove, AllByRecursion}
use Rattle.std.proofs.lemmas.List.{length-set, length-take, length-take-le, length-drop, length-append}
use Rattle.std.proofs.lemmas.List.Edits.{length-remove}
use Rattle.std.proofs.ByRecursion.{All-push}
use Rattle.std.proofs.lemmas.Bool.{le-ltb}
use Rattle.std.proofs.lemmas.Bool.Decides.{nat_tests}
use Rattle.ground.specs.Tables.{contents, closed_up}
use Rattle.ground.proofs.InUse.{contents_appended}
use Rattle.entering.specs.Entering.{short}
use Rattle.sheet.specs.Faults.{strike_fault}
use Rattle.runs.proofs.Following.{Stock}

module _ {X : Type 0} (table : List X) (size count : ℕ) (stock : Stock size count table) where
  -- so many are in use
  pub in_use : length (contents table count) ≡ count
  in_use = length-take-le count table stock.within

  -- a part that has room for one more leaves room in the whole
  pub room : (lent : ℕ) → count < length (take lent table) → count < length table
  room lent less = omega (arith, length-take lent table)

  pub stock_entered : (x : X) → count < length table → Stock size (count + 1) (set table count x)
  stock_entered x less = record { size_kept = omega (arith, length-set table count x, stock.size_kept); within = omega (arith, length-set table count x) }

  length_closed_up : (place : ℕ) → place < count → length (closed_up table count place) ≡ length table
  unfolding closed_up
  length_closed_up place before =
      let within = stock.within in
      let used = in_use in
      let fewer = length-remove (contents table count) place (omega arith) in
      let rest = length-drop (count - 1) table in
      omega (arith, length-append (remove (contents table count) place) (drop (count - 1) table))

  pub stock_struck : (place : ℕ) → place < count → Stock size (count - 1) (closed_up table count place)
  stock_struck place before =
      record { size_kept = omega (arith, length_closed_up place before, stock.size_kept); within = omega (arith, length_closed_up place before, stock.within) }

  -- a part that is lent in full measure is not short
  pub not_short : (lent : ℕ) → length (contents table count) ≤ min lent size → short (take lent table) count ≡ false
  not_short lent enough = le-ltb (length (take lent table)) count (omega (arith, length-take lent table, in_use, stock.size_kept))

-- where no refusal is due, the place is in use
pub place_in_use : {X : Type 0} (table : List X) (count place : ℕ) → strike_fault table count place ≡ None → place < count
place_in_use table count place none = grind (arith, nat_tests)

-- the records in use are fit after one more
pub all_entered : {X : Type 0} (P : X → Type 0) (table : List X) (count : ℕ) (x : X) → count < length table → AllByRecursion P (contents table count) → P x
    → AllByRecursion P (contents (set table count x) (count + 1))
all_entered P table count x less all fit = rw (contents_appended table count x less) (All-push P (contents table count) x all fit)
