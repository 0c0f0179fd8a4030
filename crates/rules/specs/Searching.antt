-- The highest code of which a test of speeds holds. Assumes nothing.
--     Top test code     code is the highest speed that passes the test, or stop where none does
--     highest test      the highest speed that passes the test, or stop where none does
--     UpTo P code       the codes with P are those up to this one
--     Closed test       a speed below one that passes the test passes it too
use Rattle.std.specs.Prelude.{◌≡◌, ◌<◌, ◌≤◌, Bool, true, false, ◌↔◌, reverse}
use Rattle.std.specs.List.{find}
use Rattle.std.specs.Option.{option_map_or}
use Rattle.codes.specs.declared.speeds.Speed.{Speed}
use Rattle.codes.specs.declared.speeds.Code.{Code}
use Rattle.codes.specs.declared.speeds.Code.TheVariants.{Stop, Go}
use Rattle.codes.specs.Speeds.{kmh, byte, speeds}

abbrev pub Top : (Speed → Bool) → Code → Type 0
Top test Stop = (v : Speed) → test v ≡ false
Top test (Go u) = (test u ≡ true) × ((v : Speed) → kmh u < kmh v → test v ≡ false)

-- the first to pass from the highest speed down
unfoldable pub highest : (Speed → Bool) → Code
highest test = option_map_or Go (find test (reverse speeds)) Stop

abbrev pub UpTo : (Code → Type 0) → Code → Type 0
UpTo P code = (c : Code) → P c ↔ (byte c ≤ byte code)

abbrev pub Closed : (Speed → Bool) → Type 0
Closed test = (low high : Speed) → kmh low ≤ kmh high → test high ≡ true → test low ≡ true
