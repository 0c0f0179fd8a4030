-- What a train means: five numbers, and the braking promise on its pace. Assumes nothing.
--     Numbers                     a train by its five numbers
--     Ranged n                    the numbers that are no codes lie in their ranges: paces up to 120 km/h, metres up to 4,095
--     Lowest pace v               v is the lowest code not below a pace
--     Promise E old n             the braking promise on the pace of n, which was old before
--     Hears E code class m n      the train m has heard a code on ground of a class, and is n since
--     Rolls E class m n           the train m has rolled a metre of a class, and is n since
use Rattle.std.specs.Prelude.{◌≡◌, ℕ, ◌+◌, ◌<◌, ◌≤◌, min, max}
use Rattle.codes.specs.declared.speeds.Speed.{Speed}
use Rattle.codes.specs.declared.speeds.Code.{Code}
use Rattle.codes.specs.declared.speeds.Code.TheVariants.{Go}
use Rattle.codes.specs.declared.gradients.Class.{Class}
use Rattle.codes.specs.Speeds.{kmh, byte}
use Rattle.ground.specs.Kinds.{steepness}
use Rattle.laws.specs.Books.{Emergencies}

pub record Numbers : Type 0 where
  -- how fast it is, in km/h
  pub pace : ℕ
  -- how fast it was when it heard its code
  pub carried : ℕ
  -- the code that it heard last
  pub heard : Code
  -- how many metres it has rolled since then
  pub rolled : ℕ
  -- the worst class of the ground under it since then, its own length behind it included
  pub gradient : Class

pub record Ranged (n : Numbers) : Type 0 where
  pub pace : n.pace ≤ 120
  pub carried : n.carried ≤ 120
  pub rolled : n.rolled ≤ 4095

pub record Lowest (pace : ℕ) (v : Code) : Type 0 where
  pub reaches : pace ≤ byte v
  pub lowest : (c : Code) → pace ≤ byte c → byte v ≤ byte c

pub record Promise (E : Emergencies) (old : ℕ) (n : Numbers) : Type 0 where
  -- it is no faster than it was, or than the code that it heard
  pub steady : n.pace ≤ max old (byte n.heard)
  -- where it has rolled the emergency distance from the code that it came with to a lower one, it is down to that
  pub braked : (v : Speed) (r : Code) → Lowest n.carried (Go v) → byte n.heard ≤ byte r → byte r < kmh v
      → E n.gradient v r ≤ n.rolled → n.pace ≤ byte r

pub record Hears (E : Emergencies) (code : Code) (class : Class) (m n : Numbers) : Type 0 where
  pub carried : n.carried ≡ m.pace
  pub heard : n.heard ≡ code
  pub rolled : n.rolled ≡ 0
  pub gradient : n.gradient ≡ class
  pub promise : Promise E m.pace n

pub record Rolls (E : Emergencies) (class : Class) (m n : Numbers) : Type 0 where
  pub carried : n.carried ≡ m.carried
  pub heard : n.heard ≡ m.heard
  pub rolled : n.rolled ≡ min (m.rolled + 1) 4095
  pub gradient : n.gradient ≡ steepness.worse m.gradient class
  pub promise : Promise E m.pace n
