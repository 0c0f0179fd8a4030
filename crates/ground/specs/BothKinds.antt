-- Classes and speeds are lawful kinds: of two classes the worse has the higher number, of two speeds the lower km/h.
-- Assumes nothing.
use Rattle.std.specs.Prelude.{◌≡◌, ℕ, ◌-◌, ◌≤◌, max}
use Rattle.std.proofs.Common.{arith}
use Rattle.std.proofs.lemmas.Bool.Decides.{nat_tests}
use Rattle.codes.specs.Gradients.{number}
use Rattle.codes.specs.Speeds.{kmh}
use Rattle.codes.specs.declared.gradients.Class.{Class}
use Rattle.codes.specs.declared.speeds.Speed.{Speed}
use Rattle.ground.specs.Grading.{Lawful, AsBad, Harmless}
use Rattle.ground.specs.Kinds.{steepness, slowness}
use Rattle.ground.specs.Ranked.{lawful_by_rank, rank_from_as_bad, as_bad_from_rank}

-- ---- classes rank by their number
class_apart : (v w : Class) → number v ≡ number w → v ≡ w
class_apart v w e = grind arith

steeper : (v w : Class) → number (steepness.worse v w) ≡ max (number v) (number w)
steeper v w = grind (arith, nat_tests)

pub steepness_lawful : Lawful steepness
steepness_lawful = lawful_by_rank steepness number class_apart steeper

pub steep_from_as_bad : (v w : Class) → AsBad steepness v w → number w ≤ number v
steep_from_as_bad = rank_from_as_bad steepness number class_apart steeper

pub as_bad_from_steep : (v w : Class) → number w ≤ number v → AsBad steepness v w
as_bad_from_steep = as_bad_from_rank steepness number class_apart steeper

-- ---- speeds rank by how far they are below 120 km/h
abbrev lack : Speed → ℕ
lack v = 120 - kmh v

at_most_120 : (v : Speed) → kmh v ≤ 120
at_most_120 v = grind arith

speed_apart : (v w : Speed) → lack v ≡ lack w → v ≡ w
speed_apart v w e = grind arith

slower : (v w : Speed) → lack (slowness.worse v w) ≡ max (lack v) (lack w)
slower v w = grind (arith, nat_tests)

pub slowness_lawful : Lawful slowness
slowness_lawful = lawful_by_rank slowness lack speed_apart slower

pub slow_from_as_bad : (v w : Speed) → AsBad slowness v w → kmh v ≤ kmh w
slow_from_as_bad v w h = omega (arith, rank_from_as_bad slowness lack speed_apart slower v w h, at_most_120 v)

pub as_bad_from_slow : (v w : Speed) → kmh v ≤ kmh w → AsBad slowness v w
as_bad_from_slow v w h = as_bad_from_rank slowness lack speed_apart slower v w (omega arith)

pub slowness_harmless : Harmless slowness
slowness_harmless v = as_bad_from_slow v slowness.undrawn (at_most_120 v)
