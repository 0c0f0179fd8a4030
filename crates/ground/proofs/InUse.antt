-- The records in use once one is appended or removed. Assumes nothing.
use Rattle.std.proofs.Common.{◌≡◌, ℕ, suc, ◌+◌, ◌-◌, ◌<◌, ◌≤◌, List, [], ◌∷◌, ◌++◌, length, take, drop, set, sym, ap, ◌∙◌, ap₂, arith}
use Rattle.std.specs.List.{copy_within, remove}
use Rattle.std.proofs.lemmas.List.{take_more_set, take-take, take_at, drop-take, length-take-le}
use Rattle.std.proofs.lemmas.List.Edits.{length-remove}
use Rattle.std.proofs.lemmas.Bool.Decides.{nat_tests}
use Rattle.codes.specs.Refusals.Told.{gives}
use Rattle.ground.specs.Tables.{contents, appending, removing, closed_up}

-- ---- what a count that is answered tells
pub room_from_appending : (size count limit after : ℕ) → gives after ≡ appending size count limit → (after ≡ count + 1) × (count < size) × (count < limit)
room_from_appending size count limit after h = (grind (arith, nat_tests), grind (arith, nat_tests), grind (arith, nat_tests))

pub place_from_removing : (size count place after : ℕ) → gives after ≡ removing size count place → (after ≡ count - 1) × (place < count) × (count ≤ size)
place_from_removing size count place after h = (grind (arith, nat_tests), grind (arith, nat_tests), grind (arith, nat_tests))

-- ---- a record appended
pub contents_appended : {X : Type 0} (table : List X) (count : ℕ) (added : X) → count < length table → contents (set table count added) (count + 1) ≡ contents table count ++ added ∷ []
contents_appended = take_more_set

-- ---- a record removed
module _ {X : Type 0} (table : List X) (place : ℕ) where
  -- the records in use behind the place, copied down to it
  pub copied_down : (count : ℕ) → place < count → count ≤ length table → copy_within table (place + 1) count place ≡ closed_up table count place
  unfolding closed_up
  copied_down count h l =
      let next : place + 1 ≡ suc place = omega arith in
      let left : count - suc place ≡ count - 1 - place = omega arith in
      let rest : count ≡ suc place + (count - 1 - place) = omega arith in
      rw (next, left)
      (ap₂ ◌++◌ (ap₂ ◌++◌ (sym (take-take place count table (omega arith))) (sym (drop-take (suc place) (count - 1 - place) table) ∙ ap (λ n. drop (suc place) (take n table)) (sym rest)))
      (ap (λ n. drop n table) (let e : place + (count - 1 - place) ≡ count - 1 = omega arith in e)))

  -- the records then in use are those before, without the one at the place
  pub contents_closed_up : (count : ℕ) → place < count → count ≤ length table → contents (closed_up table count place) (count - 1) ≡ remove (contents table count) place
  unfolding closed_up
  contents_closed_up count h l =
      take_at (remove (take count table) place) (drop (count - 1) table) (count - 1)
      (let long = length-take-le count table l in let left = length-remove (take count table) place (omega arith) in omega arith)
