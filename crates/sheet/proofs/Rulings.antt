-- A refusal is the same whatever would have been answered. Assumes nothing.
use Rattle.std.proofs.Common.{◌≡◌, ℕ, List, Some, None, Option, ap, arith}
use Rattle.codes.specs.declared.refusals.Refusal.{Refusal}
use Rattle.codes.specs.Refusals.{Told, notice}
use Rattle.codes.specs.Refusals.Told.{refuses}
use Rattle.entering.specs.Faults.{ruled}

pub still_refused : {X Y : Type 0} (fault : Option Refusal) (x : X) (y : Y) (n : ℕ × List ℕ) → refuses n ≡ ruled fault x → refuses n ≡ ruled fault y
still_refused None x y n h = let z : ◌≡◌ {A = ℕ} 0 1 = cc in absurd (omega arith)
still_refused {X} {Y} (Some w) x y n h = let same : n ≡ notice w = cc in let told : ◌≡◌ {A = Told Y} (refuses n) (refuses (notice w)) = ap (λ m. refuses m) same in told
