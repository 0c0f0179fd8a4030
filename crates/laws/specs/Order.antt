-- The test of the four laws: each figure against its neighbours. Assumes nothing.
--     next_speed v, next_code c, next_class k    the next higher speed or code and the next steeper class, if there is one
--     in_order E D          no figure stands wrongly to that of a neighbouring question
use Rattle.std.specs.Prelude.{Bool, true, not, ◌&&◌, ◌||◌, leb, Some, None, Option, nat_le, nat_lt}
use Rattle.std.specs.List.{find, list_all}
use Rattle.codes.specs.declared.speeds.Speed.{Speed}
use Rattle.codes.specs.declared.speeds.Code.{Code}
use Rattle.codes.specs.declared.speeds.Code.TheVariants.{Go}
use Rattle.codes.specs.declared.gradients.Class.{Class}
use Rattle.codes.specs.Speeds.{kmh, lower, speeds, codes}
use Rattle.codes.specs.Gradients.{number, classes}
use Rattle.laws.specs.Books.{Emergencies, Services}

-- a test that is due only where there is a next one
abbrev pub due : {X : Type 0} → Option X → (X → Bool) → Bool
due None test = true
due (Some x) test = test x

abbrev pub next_speed : Speed → Option Speed
next_speed v = find (λ w. nat_lt (kmh v) (kmh w)) speeds

abbrev pub next_code : Code → Option Code
next_code c = find (λ d. lower c d) codes

abbrev pub next_class : Class → Option Class
next_class k = find (λ j. nat_lt (number k) (number j)) classes

-- an emergency figure is not below that of the next higher to, nor above that of the next higher from or the next steeper class
abbrev pub next_to_kept : Emergencies → Class → Speed → Code → Bool
next_to_kept E k from to = due (next_code to) (λ high. not (lower high (Go from)) || nat_le (E k from high) (E k from to))

abbrev pub next_from_kept : Emergencies → Class → Speed → Code → Bool
next_from_kept E k from to = due (next_speed from) (λ high. leb (E k from to) (E k high to))

abbrev pub next_class_kept : Emergencies → Class → Speed → Code → Bool
next_class_kept E k from to = due (next_class k) (λ steeper. leb (E k from to) (E steeper from to))

abbrev pub emergency_in_order : Emergencies → Class → Speed → Code → Bool
emergency_in_order E k from to = next_to_kept E k from to && next_from_kept E k from to && next_class_kept E k from to

-- a service figure is not above that of the next higher from or the next steeper class
abbrev pub service_from_kept : Services → Class → Speed → Bool
service_from_kept D k from = due (next_speed from) (λ high. leb (D k from) (D k high))

abbrev pub service_class_kept : Services → Class → Speed → Bool
service_class_kept D k from = due (next_class k) (λ steeper. leb (D k from) (D steeper from))

abbrev pub service_in_order : Services → Class → Speed → Bool
service_in_order D k from = service_from_kept D k from && service_class_kept D k from

-- only a to below from has a figure
abbrev pub to_in_order : Emergencies → Class → Speed → Code → Bool
to_in_order E k from to = not (lower to (Go from)) || emergency_in_order E k from to

-- the figures from one speed, of one class, and all
unfoldable pub row_in_order : Emergencies → Services → Class → Speed → Bool
row_in_order E D k from = service_in_order D k from && list_all (to_in_order E k from) codes

unfoldable pub class_in_order : Emergencies → Services → Class → Bool
class_in_order E D k = list_all (row_in_order E D k) speeds

unfoldable pub in_order : Emergencies → Services → Bool
in_order E D = list_all (class_in_order E D) classes
