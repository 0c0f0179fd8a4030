-- The 594 questions that a book answers, and its figures as a table in writing order. Assumes nothing.
--     Question           what a figure answers
--     Asks q             q can be asked: its to is below its from
--     figure E D q       the figure that answers q
--     questions          all questions in writing order
--     written E D        the figures of a book in writing order
--     place q            the place of q's figure in writing order, counted from 0
--     emergency_of xs, service_of xs    what a table of figures in writing order means
use Rattle.std.specs.Prelude.{ℕ, ◌+◌, ◌-◌, ◌*◌, ◌<◌, List, ◌++◌, map, take, slice_index}
use Rattle.std.specs.List.{flat_map}
use Rattle.codes.specs.declared.speeds.Speed.{Speed}
use Rattle.codes.specs.declared.speeds.Speed.TheVariants.{V30, V40, V50, V60, V70, V80, V90, V100, V120}
use Rattle.codes.specs.declared.speeds.Code.{Code}
use Rattle.codes.specs.declared.speeds.Code.TheVariants.{Stop, Go}
use Rattle.codes.specs.declared.gradients.Class.{Class}
use Rattle.codes.specs.Speeds.{kmh, byte, speeds, codes}
use Rattle.codes.specs.Gradients.{number, classes}
use Rattle.laws.specs.Books.{Emergencies, Services}

pub data Question : Type 0 where
  emergency : Class → Speed → Code → Question
  service : Class → Speed → Question

abbrev pub Asks : Question → Type 0
Asks (emergency k from to) = byte to < kmh from
Asks (service k from) = Unit {0}

abbrev pub figure : Emergencies → Services → Question → ℕ
figure E D (emergency k from to) = E k from to
figure E D (service k from) = D k from

-- the place of a speed among the nine and of a code among the ten, from 0
abbrev pub column : Speed → ℕ
column V30 = 0
column V40 = 1
column V50 = 2
column V60 = 3
column V70 = 4
column V80 = 5
column V90 = 6
column V100 = 7
column V120 = 8

abbrev pub rank : Code → ℕ
rank Stop = 0
rank (Go v) = 1 + column v

-- the codes below a speed, rising
abbrev pub below : Speed → List Code
below v = take (column v + 1) codes

-- writing order: by class, the emergency figures first, from rising, to rising, then the service figures, from rising
abbrev pub class_questions : Class → List Question
class_questions k = flat_map (λ from. map (emergency k from) (below from)) speeds ++ map (service k) speeds

unfoldable pub questions : List Question
questions = flat_map class_questions classes

unfoldable pub written : Emergencies → Services → List ℕ
written E D = map (figure E D) questions

-- how many emergency figures of a class stand before those from a speed: one from 30, two from 40, and so on
abbrev pub before : Speed → ℕ
before V30 = 0
before V40 = 1
before V50 = 3
before V60 = 6
before V70 = 10
before V80 = 15
before V90 = 21
before V100 = 28
before V120 = 36

-- a class has 45 emergency and nine service figures
abbrev pub place : Question → ℕ
place (emergency k from to) = 54 * (number k - 1) + before from + rank to
place (service k from) = 54 * (number k - 1) + 45 + column from

abbrev pub emergency_of : List ℕ → Emergencies
emergency_of xs k from to = slice_index xs (place (emergency k from to))

abbrev pub service_of : List ℕ → Services
service_of xs k from = slice_index xs (place (service k from))
