-- The two kinds of values that ground has: gradient classes and restriction speeds. Assumes nothing.
--     steepness       of two classes the steeper is worse; undrawn ground is of class 11
--     slowness        of two speeds the lower is worse; undrawn ground is under 120 km/h
use Rattle.std.specs.Prelude.{cond, nat_lt}
use Rattle.codes.specs.Gradients.{number}
use Rattle.codes.specs.Speeds.{kmh}
use Rattle.codes.specs.declared.gradients.Class.{Class}
use Rattle.codes.specs.declared.gradients.Class.TheVariants.{C11}
use Rattle.codes.specs.declared.speeds.Speed.{Speed}
use Rattle.codes.specs.declared.speeds.Speed.TheVariants.{V120}
use Rattle.ground.specs.Grading.{Grading}

abbrev pub steepness : Grading Class
steepness = record { undrawn = C11; worse = λ v w. cond (nat_lt (number v) (number w)) w v }

abbrev pub slowness : Grading Speed
slowness = record { undrawn = V120; worse = λ v w. cond (nat_lt (kmh w) (kmh v)) w v }
