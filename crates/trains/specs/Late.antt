-- What the late train means. Assumes nothing.
--     late train           its five numbers
--     late_ranged train    they lie in their ranges
use Rattle.trains.specs.Braking.{Numbers, Ranged}
use Rattle.trains.specs.declared.late.LateTrain.{LateTrain}

abbrev pub late : LateTrain → Numbers
late train =
    record { pace = train.pace; carried = train.carried; heard = train.heard; rolled = train.rolled; gradient = train.gradient }

pub late_ranged : (train : LateTrain) → Ranged (late train)
late_ranged train = record { pace = train.slow; carried = train.came; rolled = train.near }
