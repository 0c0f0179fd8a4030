-- Refusals in the order in which they are due. Assumes nothing.
--     first test w later    refusal w where the test holds, else what comes later
--     ruled fault x         what a call tells: the fault, if there is one, else the value x
use Rattle.std.specs.Prelude.{Bool, true, false, Some, None, Option}
use Rattle.codes.specs.declared.refusals.Refusal.{Refusal}
use Rattle.codes.specs.Refusals.{Told, notice}
use Rattle.codes.specs.Refusals.Told.{gives, refuses}

abbrev pub first : Bool → Refusal → Option Refusal → Option Refusal
first true w later = Some w
first false w later = later

abbrev pub ruled : {X : Type 0} → Option Refusal → X → Told X
ruled None x = gives x
ruled (Some w) x = refuses (notice w)
