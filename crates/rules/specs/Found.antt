-- How the limits by the restrictions are found, one by one. Assumes nothing.
--     lower_of one other              the lower of two codes
--     lowest codes                    the lowest of some codes, or 120 km/h where that is lower
--     touching_code place x           the highest code by restriction x, if it touches the interval
--     ahead_code E gradients place x  the highest code by restriction x, if it lies ahead
use Rattle.std.specs.Prelude.{◌-◌, cond, List, fold}
use Rattle.codes.specs.declared.speeds.Speed.{Speed}
use Rattle.codes.specs.declared.speeds.Speed.TheVariants.{V120}
use Rattle.codes.specs.declared.speeds.Code.{Code}
use Rattle.codes.specs.declared.speeds.Code.TheVariants.{Go}
use Rattle.codes.specs.declared.gradients.Class.{Class}
use Rattle.codes.specs.Speeds.{lower}
use Rattle.ground.specs.declared.entries.Entry.{Entry}
use Rattle.ground.specs.Ground.{stretch_value}
use Rattle.ground.specs.Kinds.{steepness}
use Rattle.laws.specs.Books.{Emergencies}
use Rattle.rules.specs.declared.places.Place.{Place}
use Rattle.rules.specs.Rules.{train_length}
use Rattle.rules.specs.Searching.{highest}
use Rattle.rules.specs.Braked.{down_to}
use Rattle.rules.specs.Limits.{touches, lies_ahead}

abbrev pub lower_of : Code → Code → Code
lower_of one other = cond (lower other one) other one

abbrev pub lowest : List Code → Code
lowest codes = fold lower_of (Go V120) codes

-- 120 km/h where it does not touch
abbrev pub touching_code : Place → Entry Speed → Code
touching_code place x = cond (touches place x) (Go x.value) (Go V120)

-- 120 km/h where it does not lie ahead
abbrev pub ahead_code : Emergencies → List (Entry Class) → Place → Entry Speed → Code
ahead_code E gradients place x =
    cond (lies_ahead place x)
    (highest (down_to E (stretch_value steepness gradients (place.end - train_length) x.from) (Go x.value) (x.from - place.end)))
    (Go V120)
