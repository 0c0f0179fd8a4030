-- What a call that is ruled by a fault tells of the fault. Assumes nothing.
use Rattle.std.proofs.Common.{◌≡◌, ℕ, ◌<◌, Bool, true, false, List, length, Some, None, Option, refl, arith}
use Rattle.std.proofs.lemmas.Bool.Decides.{nat_tests}
use Rattle.codes.specs.declared.refusals.Refusal.{Refusal}
use Rattle.codes.specs.Refusals.{notice}
use Rattle.codes.specs.Refusals.Told.{gives, refuses}
use Rattle.entering.specs.Faults.{first, ruled}
use Rattle.entering.specs.Entering.{room_fault}

-- a value is told where there is no fault, and then it is that value
pub no_fault_from_gives : {X : Type 0} (fault : Option Refusal) (x y : X) → gives y ≡ ruled fault x → (fault ≡ None) × (y ≡ x)
no_fault_from_gives None x y h = (refl, cc)
no_fault_from_gives (Some w) x y h = let z : ◌≡◌ {A = ℕ} 0 1 = cc in absurd (omega arith)

-- a refusal is told where there is a fault, and then it is that fault
pub fault_from_refuses : {X : Type 0} (fault : Option Refusal) (x : X) (n : ℕ × List ℕ) → refuses n ≡ ruled fault x → (w : Refusal) × (fault ≡ Some w) × (n ≡ notice w)
fault_from_refuses None x n h = let z : ◌≡◌ {A = ℕ} 0 1 = cc in absurd (omega arith)
fault_from_refuses (Some w) x n h = (w, refl, cc)

-- where there is none, the first test failed, and nothing later is due
pub none_from_first : (test : Bool) (w : Refusal) (later : Option Refusal) → first test w later ≡ None → (test ≡ false) × (later ≡ None)
none_from_first true w later h = let z : ◌≡◌ {A = ℕ} 0 1 = cc in absurd (omega arith)
none_from_first false w later h = (refl, h)

-- where none is due, there is room for a record, and the fault is that of the record
pub room_from_none : {X : Type 0} (table : List X) (count limit : ℕ) (later : Option Refusal) → room_fault table count limit later ≡ None → (count < length table) × (count < limit) × (later ≡ None)
room_from_none table count limit later h = (grind (arith, nat_tests), grind (arith, nat_tests), grind (arith, nat_tests))
