-- The part of a table that is lent: what is read in it stands in the table, and what is written to it is written to the table. Assumes nothing.
use Rattle.std.proofs.Common.{◌≡◌, ℕ, zero, suc, ◌-◌, ◌<◌, ◌≤◌, min, List, [], ◌∷◌, ◌++◌, length, take, drop, set, sym, ap, ◌∙◌, append_assoc, arith, length-take}
use native.Mathlib.Nat.{zero-min, min-zero, suc-min-suc}
use Rattle.std.specs.List.{remove}
use Rattle.std.proofs.lemmas.List.{take-append-drop, set-append_left, take-take, drop-append-le}
use Rattle.ground.specs.Tables.{contents, closed_up}
use Rattle.sheet.specs.Changes.{row_written}

-- past the table's end all of it is lent
pub take_within : {X : Type 0} (n : ℕ) (xs : List X) → take (min n (length xs)) xs ≡ take n xs
take_within zero xs = rw (zero-min (length xs))
take_within (suc n) [] = rw (min-zero (suc n))
take_within (suc n) (x ∷ xs) = rw (suc-min-suc n (length xs)) (ap (λ ys. x ∷ ys) (take_within n xs))

pub drop_within : {X : Type 0} (n : ℕ) (xs : List X) → drop (min n (length xs)) xs ≡ drop n xs
drop_within zero xs = rw (zero-min (length xs))
drop_within (suc n) [] = rw (min-zero (suc n))
drop_within (suc n) (x ∷ xs) = rw (suc-min-suc n (length xs)) (drop_within n xs)

module _ {X : Type 0} (n : ℕ) (xs : List X) where
  within : (i : ℕ) → i ≤ length (take n xs) → i ≤ n
  within i le = omega (arith, length-take n xs)

  pub contents_part : (count : ℕ) → count ≤ length (take n xs) → contents (take n xs) count ≡ contents xs count
  contents_part count le = take-take count n xs (within count le)

  pub set_part : (i : ℕ) (x : X) → i < length (take n xs) → set (take n xs) i x ++ drop n xs ≡ set xs i x
  set_part i x lt = sym (set-append_left (take n xs) (drop n xs) i x lt) ∙ ap (λ ys. set ys i x) (take-append-drop n xs)

  drop_part : (i : ℕ) → i ≤ length (take n xs) → drop i (take n xs) ++ drop n xs ≡ drop i xs
  drop_part i le = sym (drop-append-le i (take n xs) (drop n xs) le) ∙ ap (drop i) (take-append-drop n xs)

  -- a list in the place of the first records
  over_part : (ys : List X) (i : ℕ) → i ≤ length (take n xs) → (ys ++ drop i (take n xs)) ++ drop n xs ≡ ys ++ drop i xs
  over_part ys i le = append_assoc ys _ _ ∙ ap (λ zs. ys ++ zs) (drop_part i le)

  pub closed_up_part : (count place : ℕ) → count ≤ length (take n xs) → closed_up (take n xs) count place ++ drop n xs ≡ closed_up xs count place
  unfolding closed_up
  closed_up_part count place le =
      over_part (remove (contents (take n xs) count) place) (count - 1) (omega arith)
      ∙ ap (λ ys. remove ys place ++ drop (count - 1) xs) (contents_part count le)

pub row_part : (n : ℕ) (row bytes : List ℕ) → length row ≤ length (take n bytes) → row_written row (take n bytes) ++ drop n bytes ≡ row_written row bytes
row_part n row bytes le = over_part n bytes row (length row) le
