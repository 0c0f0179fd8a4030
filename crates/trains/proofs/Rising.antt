-- The first code that passes a test is the lowest, since the ten codes stand rising. Assumes nothing.
use Rattle.std.proofs.Common.{◌≡◌, ℕ, ◌<◌, ◌≤◌, Bool, true, false, cond, leb, List, [], ◌∷◌, Some, None, Option, refl, subst, arith, rules, le-leb, leb-true, leb-false}
use Rattle.std.specs.List.{find, AllByRecursion}
use Rattle.std.proofs.ByRecursion.{All-weaker}
use borrow.Author.Tests.{both_ways}
use Rattle.codes.specs.declared.speeds.Speed.{Speed}
use Rattle.codes.specs.declared.speeds.Speed.TheVariants.{V30, V40, V50, V60, V70, V80, V90, V100, V120}
use Rattle.codes.specs.declared.speeds.Code.{Code}
use Rattle.codes.specs.declared.speeds.Code.TheVariants.{Stop, Go}
use Rattle.codes.specs.Speeds.{byte, codes}
use Rattle.trains.specs.Braking.{Lowest}

-- what holds of the ten codes holds of every code
pub each_code : (P : Code → Type 0) → AllByRecursion P codes → (c : Code) → P c
each_code P all Stop = all.0
each_code P all (Go V30) = all.1.0
each_code P all (Go V40) = all.1.1.0
each_code P all (Go V50) = all.1.1.1.0
each_code P all (Go V60) = all.1.1.1.1.0
each_code P all (Go V70) = all.1.1.1.1.1.0
each_code P all (Go V80) = all.1.1.1.1.1.1.0
each_code P all (Go V90) = all.1.1.1.1.1.1.1.0
each_code P all (Go V100) = all.1.1.1.1.1.1.1.1.0
each_code P all (Go V120) = all.1.1.1.1.1.1.1.1.1.0

-- no code of a list is above one after it
abbrev Rises : List Code → Type 0
Rises [] = Unit {0}
Rises (c ∷ cs) = AllByRecursion (λ d. byte c ≤ byte d) cs × Rises cs

module _ (test : Code → Bool) where
  -- o is the lowest code of a list that passes the test, or none where none passes
  abbrev LeastOf : List Code → Option Code → Type 0
  LeastOf cs None = AllByRecursion (λ c. test c ≡ false) cs
  LeastOf cs (Some least) = (test least ≡ true) × AllByRecursion (λ c. test c ≡ true → byte least ≤ byte c) cs

  -- o is the lowest code that passes the test, or none where none passes
  abbrev pub Least : Option Code → Type 0
  Least None = (c : Code) → test c ≡ false
  Least (Some least) = (test least ≡ true) × ((c : Code) → test c ≡ true → byte least ≤ byte c)

  least_of : (cs : List Code) → Rises cs → LeastOf cs (find test cs)
  least_of [] rises = tt
  least_of (c ∷ cs) rises = next (test c) refl (find test cs) (least_of cs rises.1)
    where
      next : (b : Bool) → test c ≡ b → (o : Option Code) → LeastOf cs o → LeastOf (c ∷ cs) (cond b (Some c) o)
      next true e o least = (e, (λ _. omega arith, All-weaker (λ d. byte c ≤ byte d) (λ d. test d ≡ true → byte c ≤ byte d) (λ d above _. above) cs rises.0))
      next false e None none = (e, none)
      next false e (Some v) least = (least.0, (λ passes. absurd (both_ways (test c) e passes), least.1))

  -- the first of the ten codes that passes a test is the lowest
  pub least_found : Least (find test codes)
  least_found = every (find test codes) (least_of codes (search rules))
    where
      every : (o : Option Code) → LeastOf codes o → Least o
      every None none = each_code (λ c. test c ≡ false) none
      every (Some v) least = (least.0, each_code (λ c. test c ≡ true → byte v ≤ byte c) least.1)

module _ (pace : ℕ) where
  -- the test whether a code is not below the pace
  abbrev pub reaches : Code → Bool
  reaches c = leb pace (byte c)

  least_from : {o : Option Code} → find reaches codes ≡ o → Least reaches o
  least_from first = subst (Least reaches) first (least_found reaches)

  -- the first code that reaches the pace is the lowest,
  pub lowest_found : (v : Code) → find reaches codes ≡ Some v → Lowest pace v
  lowest_found v first =
      let least = least_from first in
      record { reaches = leb-true pace (byte v) least.0; lowest = λ c reached. least.1 c (le-leb pace (byte c) reached) }

  -- and only a pace above 120 km/h has none
  none_reaches : find reaches codes ≡ None → 120 < pace
  none_reaches none = leb-false pace 120 (least_from none (Go V120))

  -- a pace of a moving train has a lowest code not below it, and that is a speed
  pub lowest_speed : 0 < pace → pace ≤ 120 → (v : Speed) × Lowest pace (Go v)
  lowest_speed moves most = first (find reaches codes) refl
    where
      first : (o : Option Code) → find reaches codes ≡ o → (v : Speed) × Lowest pace (Go v)
      first None e = absurd (omega (arith, none_reaches e))
      first (Some Stop) e = absurd (omega (arith, (lowest_found Stop e).reaches))
      first (Some (Go v)) e = (v, lowest_found (Go v) e)
