-- Tests of a speed by its braking distance. Assumes nothing.
--     down_to E k to metres speed    whether the speed is not above code `to`, or its emergency distance to it fits
--     halts distance metres speed    whether the speed's distance is at most so many metres
use Rattle.std.specs.Prelude.{ℕ, Bool, not, ◌||◌, nat_le}
use Rattle.codes.specs.declared.speeds.Speed.{Speed}
use Rattle.codes.specs.declared.speeds.Code.{Code}
use Rattle.codes.specs.declared.speeds.Code.TheVariants.{Go}
use Rattle.codes.specs.declared.gradients.Class.{Class}
use Rattle.codes.specs.Speeds.{lower}
use Rattle.laws.specs.Books.{Emergencies}

abbrev pub down_to : Emergencies → Class → Code → ℕ → Speed → Bool
down_to E k to metres speed = not (lower to (Go speed)) || nat_le (E k speed to) metres

abbrev pub halts : (Speed → ℕ) → ℕ → Speed → Bool
halts distance metres speed = nat_le (distance speed) metres
