-- What a call asks for, and why it is refused before a row is looked at. Assumes nothing.
--     Asked drawing number approach target speed    the mark is found at the target, and the approach code is the speed
--     Unasked drawing number approach size why      why is the first refusal that is due: 8, 4 or 10
--     Sized drawing number approach size target speed    so they are, and a row of this size is one for the mark
--     AskedFor drawing number approach size r       r is the target and the speed for a row of this size, or such a refusal
use Rattle.std.specs.Prelude.{◌≡◌, ℕ, List, [], Some, None, Ok, Err, Result, ◌≢◌}
use Rattle.codes.specs.declared.speeds.Speed.{Speed}
use Rattle.codes.specs.declared.refusals.Refusal.{Refusal}
use Rattle.codes.specs.Speeds.{speed_of}
use Rattle.codes.specs.Refusals.{notice}
use Rattle.rows.specs.declared.targets.Target.{Target}
use Rattle.rows.specs.Drawings.{Drawing}
use Rattle.rows.specs.Targets.{LocatedAt, Absent}

-- the mark is found, and the approach code is a speed
pub record Asked (drawing : Drawing) (number approach : ℕ) (target : Target) (speed : Speed) : Type 0 where
  pub located : LocatedAt drawing number target
  pub approaches : speed_of approach ≡ Some speed

-- and a row of so many bytes has one for each interval up to the mark's
pub record Sized (drawing : Drawing) (number approach size : ℕ) (target : Target) (speed : Speed) : Type 0 where
  pub asked : Asked drawing number approach target speed
  pub sized : size ≡ target.held.interval

-- 8 for the mark, 4 for the approach code, and 10 for the size of the row
pub data Unasked (drawing : Drawing) (number approach size : ℕ) : ℕ × List ℕ → Type 0 where
  absent : Absent drawing number → Unasked drawing number approach size (8, [])
  slow : (target : Target) → LocatedAt drawing number target → speed_of approach ≡ None → Unasked drawing number approach size (4, [])
  missized : (target : Target) (speed : Speed) → Asked drawing number approach target speed → (size ≢ target.held.interval) → Unasked drawing number approach size (10, [])

abbrev pub AskedFor : Drawing → ℕ → ℕ → ℕ → Result (Target × Speed) Refusal → Type 0
AskedFor drawing number approach size (Ok asked) = Sized drawing number approach size asked.0 asked.1
AskedFor drawing number approach size (Err why) = Unasked drawing number approach size (notice why)
