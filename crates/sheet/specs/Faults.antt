-- Which refusal of a call is due first, by the tables that the call is lent. Assumes nothing.
--     start_fault start                   6 for a start that is not 1,000 to 100,000
--     strike_fault table count place      10, 8 for a place that is not in use
--     close_fault heading intervals marks 10, 9 for a sheet without intervals or with a mark in none
--     lent_short heading tables           one of the four tables is lent under its count
--     row_short row                       the row table has fewer than 64 bytes
--     lent_fault, submit_fault            10 for tables so lent
--     strange bytes                       one of the bytes is no code
--     set_off_fault, step_fault           10, 11 for a byte of the passed row that is no code; 14 for a train above the approach code
use Rattle.std.specs.Prelude.{ℕ, Bool, not, ◌&&◌, ◌||◌, List, length, take, is_some, None, Option, ◌==◌, nat_le, nat_lt}
use Rattle.std.specs.List.{list_all, list_any}
use Rattle.codes.specs.declared.refusals.Refusal.{Refusal}
use Rattle.codes.specs.declared.refusals.Refusal.TheVariants as refusal
use Rattle.codes.specs.Speeds.{kmh, code_of}
use Rattle.ground.specs.Tables.{contents}
use Rattle.codes.specs.declared.gradients.Class.{Class}
use Rattle.ground.specs.declared.entries.Entry.{Entry}
use Rattle.rules.specs.declared.lines.Interval.{Interval}
use Rattle.rules.specs.declared.lines.StopMark.{StopMark}
use Rattle.rules.specs.Tracks.{moved_on}
use Rattle.rows.specs.Drawings.{lengths_of}
use Rattle.trains.specs.Braking.{Numbers}
use Rattle.entering.specs.Faults.{first}
use Rattle.entering.specs.Entering.{short}
use Rattle.sheet.specs.Sheets.{Heading, Tables, Pass}

abbrev pub first_start : ℕ
first_start = 1000

abbrev pub last_start : ℕ
last_start = 100000

abbrev pub start_fault : ℕ → Option Refusal
start_fault start = first (nat_lt start first_start || nat_lt last_start start) refusal.Stretch None

abbrev pub strike_fault : {X : Type 0} → List X → ℕ → ℕ → Option Refusal
strike_fault table count place = first (short table count) refusal.Size (first (nat_le count place) refusal.Absent None)

-- a position behind the start and not behind the end of the last interval lies in an interval
abbrev pub in_interval : ℕ → List ℕ → ℕ → Bool
in_interval start lengths position = nat_lt start position && nat_le position (moved_on start lengths (length lengths))

abbrev pub all_marks_stand : ℕ → List ℕ → List StopMark → Bool
all_marks_stand start lengths marks = list_all (λ (mark : StopMark). in_interval start lengths mark.position) marks

-- no interval is in use, or a mark in use stands in none
abbrev pub unready : ℕ → List Interval → List StopMark → Bool
unready start intervals marks = length intervals == 0 || not (all_marks_stand start (lengths_of intervals) marks)

abbrev pub close_fault : Heading → List Interval → List StopMark → Option Refusal
close_fault heading intervals marks =
    first (short intervals heading.intervals || short marks heading.marks) refusal.Size
    (first (unready heading.start (contents intervals heading.intervals) (contents marks heading.marks)) refusal.Unready None)

-- one of the four tables is lent under its count
abbrev pub lent_short : Heading → Tables → Bool
lent_short heading tables =
    short tables.intervals heading.intervals || short tables.gradients heading.gradients
    || short tables.restrictions heading.restrictions || short tables.marks heading.marks

-- a row table has a byte for each interval that a sheet can have
abbrev pub row_table_size : ℕ
row_table_size = 64

abbrev pub row_short : List ℕ → Bool
row_short row = nat_lt (length row) row_table_size

abbrev pub lent_fault : Heading → Tables → Option Refusal
lent_fault heading tables = first (lent_short heading tables) refusal.Size None

abbrev pub submit_fault : Heading → Tables → Option Refusal
submit_fault heading tables = first (lent_short heading tables || row_short tables.row) refusal.Size None

abbrev pub strange : List ℕ → Bool
strange bytes = list_any (λ b. not (is_some (code_of b))) bytes

-- the bytes of the passed row
abbrev pub passed_bytes : Pass → List ℕ → List ℕ
passed_bytes pass row = take pass.mark.interval row

abbrev pub set_off_fault : Heading → List (Entry Class) → List ℕ → Pass → Numbers → Option Refusal
set_off_fault heading gradients row pass train =
    first (short gradients heading.gradients || row_short row) refusal.Size
    (first (strange (passed_bytes pass row)) refusal.Byte
    (first (nat_lt (kmh pass.approach) train.pace) refusal.Fast None))

abbrev pub step_fault : Heading → List Interval → List (Entry Class) → List ℕ → Pass → Option Refusal
step_fault heading intervals gradients row pass =
    first (short intervals heading.intervals || short gradients heading.gradients || row_short row) refusal.Size
    (first (strange (passed_bytes pass row)) refusal.Byte None)
