-- A train as it is made. Assumes nothing.
--     started pace             the numbers of a train that has just heard stop on undrawn ground
--     Started numbers pace r   r is a train with those numbers, or refusal 14 where the pace is above 120 km/h
use Rattle.std.specs.Prelude.{◌≡◌, ℕ, ◌<◌, ◌≤◌, [], Ok, Err, Result}
use Rattle.codes.specs.declared.speeds.Code.TheVariants.{Stop}
use Rattle.codes.specs.declared.refusals.Refusal.{Refusal}
use Rattle.codes.specs.Refusals.{notice}
use Rattle.ground.specs.Kinds.{steepness}
use Rattle.trains.specs.Braking.{Numbers}

abbrev pub started : ℕ → Numbers
started pace = record { pace = pace; carried = pace; heard = Stop; rolled = 0; gradient = steepness.undrawn }

abbrev pub Started : {T : Type 0} → (T → Numbers) → ℕ → Result T Refusal → Type 0
Started numbers pace (Ok train) = (pace ≤ 120) × (numbers train ≡ started pace)
Started numbers pace (Err why) = (120 < pace) × (notice why ≡ (14, []))
