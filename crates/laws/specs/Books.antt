-- What a braking book means: two functions, their range and their four laws. Assumes nothing.
--     Emergencies       E: the emergency distance in metres, by class, from and to
--     Services          D: the service distance to a stop in metres, by class and from
--     answered E k from to    what a book tells when it is asked for E
--     Metres d          d can stand in a book: 1 to 4,095 m
--     Distances E D     every figure of a book is such a distance
--     Laws E D          the four laws hold
use Rattle.std.specs.Prelude.{ℕ, ◌<◌, ◌≤◌, cond, []}
use Rattle.codes.specs.declared.speeds.Speed.{Speed}
use Rattle.codes.specs.declared.speeds.Code.{Code}
use Rattle.codes.specs.declared.speeds.Code.TheVariants.{Go}
use Rattle.codes.specs.declared.gradients.Class.{Class}
use Rattle.codes.specs.Speeds.{kmh, byte, lower}
use Rattle.codes.specs.Gradients.{number}
use Rattle.codes.specs.Refusals.{Told, gives, refuses}

abbrev pub Emergencies : Type 0
Emergencies = Class → Speed → Code → ℕ

abbrev pub Services : Type 0
Services = Class → Speed → ℕ

-- a question whose to is not below its from is refused by 17, and no other
abbrev pub answered : Emergencies → Class → Speed → Code → Told ℕ
answered E k from to = cond (lower to (Go from)) (gives (E k from to)) (refuses (17, []))

abbrev pub Metres : ℕ → Type 0
Metres d = (1 ≤ d) × (d ≤ 4095)

pub record Distances (E : Emergencies) (D : Services) : Type 0 where
  pub emergency : (k : Class) (from : Speed) (to : Code) → byte to < kmh from → Metres (E k from to)
  pub service : (k : Class) (from : Speed) → Metres (D k from)

pub record Laws (E : Emergencies) (D : Services) : Type 0 where
  -- 1. class and from equal, a higher to never has a longer E
  pub higher_to : (k : Class) (from : Speed) (low high : Code) → byte low ≤ byte high → byte high < kmh from → E k from high ≤ E k from low
  -- 2. class and to equal, a higher from never has a shorter E
  pub higher_from : (k : Class) (low high : Speed) (to : Code) → byte to < kmh low → kmh low ≤ kmh high → E k low to ≤ E k high to
  -- 3. class equal, a higher from never has a shorter D
  pub higher_service : (k : Class) (low high : Speed) → kmh low ≤ kmh high → D k low ≤ D k high
  -- 4. a steeper class never has a shorter E or D
  pub steeper_emergency : (j k : Class) (from : Speed) (to : Code) → number j ≤ number k → byte to < kmh from → E j from to ≤ E k from to
  pub steeper_service : (j k : Class) (from : Speed) → number j ≤ number k → D j from ≤ D k from
