-- What can be entered into the tables of a line, and which refusal is due first. Assumes nothing.
--     short table count                  the table is lent under its count
--     used_up table count limit          the table or the limit is used up
--     impossible_length metres           an interval is not so long
--     impossible_stretch from to         an entry has no metres, or ends too far out
--     no_faldtal f, no_speed kmh         f is no faldtal; kmh is none of the nine speeds
--     out_of_range position danger       no mark stands so, or no danger point lies so behind it
--     has_number number_of n records     one of the records has the number
--     class_of_faldtal f                 the first class whose edge f does not fall below
--     speed_of_kmh kmh                   the speed of so many km/h, where there is one
--     interval_of, gradient_of, restriction_of, mark_of     the record that is entered
--     gradient_written, restriction_written   the record of a draft: of an entry with a faldtal, or with km/h
--     room_fault table count limit later     the refusal for want of room, if one is due, else what comes later
--     interval_flaw, gradient_flaw, restriction_flaw, mark_flaw
--                                        the first refusal that is due of a draft beside the records in use, where there is room
--     interval_fault, gradient_fault, restriction_fault, mark_fault
--                                        the first refusal that is due, if any is
--     FitInterval, FitGradient, FitRestriction, FitMark   what a record that was entered fulfils
use Rattle.std.specs.Prelude.{ℕ, ◌+◌, ◌<◌, ◌≤◌, Bool, cond, not, ◌||◌, List, [], ◌∷◌, length, ℤ, pos, neg_ℤ, is_some, None, Option, ◌==◌, int_le, int_lt, nat_le, nat_lt}
use Rattle.std.specs.Option.{unwrap_or}
use Rattle.std.specs.List.{list_any}
use Rattle.codes.specs.declared.gradients.Class.{Class}
use Rattle.codes.specs.declared.gradients.Class.TheVariants.{C11}
use Rattle.codes.specs.declared.speeds.Speed.{Speed}
use Rattle.codes.specs.declared.speeds.Speed.TheVariants.{V120}
use Rattle.codes.specs.declared.refusals.Refusal.{Refusal}
use Rattle.codes.specs.declared.refusals.Refusal.TheVariants as refusal
use Rattle.codes.specs.Gradients.{classes, edge}
use Rattle.codes.specs.Speeds.{speed_of}
use Rattle.ground.specs.declared.entries.Entry.{Entry}
use Rattle.ground.specs.Tables.{contents}
use Rattle.rules.specs.declared.lines.Interval.{Interval}
use Rattle.rules.specs.declared.lines.StopMark.{StopMark}
use Rattle.entering.specs.Faults.{first}

-- ---- limits
-- how many records a table takes
abbrev pub most_intervals : ℕ
most_intervals = 64

abbrev pub most_gradients : ℕ
most_gradients = 64

abbrev pub most_restrictions : ℕ
most_restrictions = 64

abbrev pub most_marks : ℕ
most_marks = 16

-- metres: of an interval; where an entry ends at the latest; where a mark stands at the latest; to its danger point
abbrev pub longest_interval : ℕ
longest_interval = 5000

abbrev pub last_end : ℕ
last_end = 500000

abbrev pub last_position : ℕ
last_position = 450000

abbrev pub longest_overrun : ℕ
longest_overrun = 1000

-- ---- tests
abbrev pub short : {X : Type 0} → List X → ℕ → Bool
short table count = nat_lt (length table) count

abbrev pub used_up : {X : Type 0} → List X → ℕ → ℕ → Bool
used_up table count limit = nat_le limit count || nat_le (length table) count

abbrev pub impossible_length : ℕ → Bool
impossible_length metres = nat_lt metres 1 || nat_lt longest_interval metres

abbrev pub impossible_stretch : ℕ → ℕ → Bool
impossible_stretch from to = nat_le to from || nat_lt last_end to

abbrev pub no_faldtal : ℤ → Bool
no_faldtal f = int_lt f (neg_ℤ (pos 350)) || int_lt (pos 350) f

unfoldable pub no_speed : ℕ → Bool
no_speed kmh = not (is_some (speed_of kmh))

abbrev pub out_of_range : ℕ → ℕ → Bool
out_of_range position danger = nat_lt last_position position || nat_lt danger position || nat_lt (position + longest_overrun) danger

-- a record of the list has the number
abbrev pub has_number : {X : Type 0} → (X → ℕ) → ℕ → List X → Bool
has_number number_of number records = list_any (λ x. number_of x == number) records

-- ---- records
-- the first class of the list whose edge f does not fall below, or class 11
abbrev pub first_reached : ℤ → List Class → Class
first_reached f [] = C11
first_reached f (k ∷ ks) = cond (int_le (edge k) f) k (first_reached f ks)

unfoldable pub class_of_faldtal : ℤ → Class
class_of_faldtal f = first_reached f classes

unfoldable pub speed_of_kmh : ℕ → Speed
speed_of_kmh kmh = unwrap_or (speed_of kmh) V120

abbrev pub interval_of : ℕ → ℕ → Interval
interval_of number metres = record { number = number; length = metres }

abbrev pub gradient_written : Entry ℤ → Entry Class
gradient_written draft = record { from = draft.from; to = draft.to; value = class_of_faldtal draft.value }

abbrev pub restriction_written : Entry ℕ → Entry Speed
restriction_written draft = record { from = draft.from; to = draft.to; value = speed_of_kmh draft.value }

abbrev pub gradient_of : ℕ → ℕ → ℤ → Entry Class
gradient_of from to f = gradient_written (record { from = from; to = to; value = f })

abbrev pub restriction_of : ℕ → ℕ → ℕ → Entry Speed
restriction_of from to kmh = restriction_written (record { from = from; to = to; value = kmh })

abbrev pub mark_of : ℕ → ℕ → ℕ → StopMark
mark_of number position danger = record { number = number; position = position; danger = danger }

-- ---- faults
-- what an interval and a mark are known by
abbrev pub interval_number : Interval → ℕ
interval_number interval = interval.number

abbrev pub mark_number : StopMark → ℕ
mark_number mark = mark.number

-- a table that has no room, else the fault of the record
abbrev pub room_fault : {X : Type 0} → List X → ℕ → ℕ → Option Refusal → Option Refusal
room_fault table count limit later = first (short table count) refusal.Size (first (used_up table count limit) refusal.Full later)

-- a draft beside the records in use
abbrev pub interval_flaw : Interval → List Interval → Option Refusal
interval_flaw interval in_use =
    first (impossible_length interval.length) refusal.Length
    (first (has_number interval_number interval.number in_use) refusal.Doubled None)

abbrev pub gradient_flaw : Entry ℤ → List (Entry Class) → Option Refusal
gradient_flaw draft in_use =
    first (impossible_stretch draft.from draft.to) refusal.Stretch
    (first (no_faldtal draft.value) refusal.Grade None)

abbrev pub restriction_flaw : Entry ℕ → List (Entry Speed) → Option Refusal
restriction_flaw draft in_use =
    first (impossible_stretch draft.from draft.to) refusal.Stretch
    (first (no_speed draft.value) refusal.Speed None)

abbrev pub mark_flaw : StopMark → List StopMark → Option Refusal
mark_flaw mark in_use =
    first (has_number mark_number mark.number in_use) refusal.Doubled
    (first (out_of_range mark.position mark.danger) refusal.Overrun None)

-- the room, and then the draft
abbrev pub interval_fault : List Interval → ℕ → ℕ → ℕ → Option Refusal
interval_fault table count number metres = room_fault table count most_intervals (interval_flaw (interval_of number metres) (contents table count))

abbrev pub gradient_fault : List (Entry Class) → ℕ → ℕ → ℕ → ℤ → Option Refusal
gradient_fault table count from to f =
    room_fault table count most_gradients (gradient_flaw (record { from = from; to = to; value = f }) (contents table count))

abbrev pub restriction_fault : List (Entry Speed) → ℕ → ℕ → ℕ → ℕ → Option Refusal
restriction_fault table count from to kmh =
    room_fault table count most_restrictions (restriction_flaw (record { from = from; to = to; value = kmh }) (contents table count))

abbrev pub mark_fault : List StopMark → ℕ → ℕ → ℕ → ℕ → Option Refusal
mark_fault table count number position danger =
    room_fault table count most_marks (mark_flaw (mark_of number position danger) (contents table count))

-- ---- what a record that was entered fulfils
abbrev pub FitInterval : Interval → Type 0
FitInterval interval = (1 ≤ interval.length) × (interval.length ≤ longest_interval)

abbrev pub FitStretch : {V : Type 0} → Entry V → Type 0
FitStretch entry = (entry.from < entry.to) × (entry.to ≤ last_end)

abbrev pub FitGradient : Entry Class → Type 0
FitGradient gradient = FitStretch gradient

abbrev pub FitRestriction : Entry Speed → Type 0
FitRestriction restriction = FitStretch restriction

pub record FitMark (mark : StopMark) : Type 0 where
  pub within : mark.position ≤ last_position
  pub not_before : mark.position ≤ mark.danger
  pub near : mark.danger ≤ mark.position + longest_overrun
