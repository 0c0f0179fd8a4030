-- What each call over a sheet promises: its answer, and what the sheet, the tables, the bytes and the train are afterwards. Assumes nothing.
--     Blanks start r                    a blank sheet with its start, or 6
--     Changed fault grown written ..    entering and striking: the fault that is due, if any is, leaves the sheet and the table as they were;
--                                       else the heading has grown and the table has the record written
--     Edits fault grow written ..       the same of an open sheet
--     Closes, Works, Submitted, SetsOut, Stepped     closing, working out, submitting, setting off and stepping
--     A call that takes its sheet by value hands it back with the refusal.
use Rattle.std.specs.Prelude.{◌≡◌, ℕ, Bool, true, false, cond, List, [], ◌∷◌, is_ok, Some, None, Ok, Err, Option, Result}
use Rattle.codes.specs.declared.refusals.Refusal.{Refusal}
use Rattle.codes.specs.declared.gradients.Class.{Class}
use Rattle.codes.specs.declared.speeds.Speed.{Speed}
use Rattle.codes.specs.Refusals.{notice, told, refuses}
use Rattle.ground.specs.declared.entries.Entry.{Entry}
use Rattle.ground.specs.Tables.{contents}
use Rattle.laws.specs.Books.{Emergencies, Services}
use Rattle.rules.specs.Tracks.{Track}
use Rattle.rows.specs.declared.letters.StopLetter.{StopLetter}
use Rattle.rows.specs.Drawings.{Drawing, lengths_of}
use Rattle.rows.specs.Targets.{mark_of}
use Rattle.rows.specs.WorkingOut.{Worked, Unworked}
use Rattle.rows.specs.Examining.{Passed, Failed}
use Rattle.rules.specs.declared.lines.Interval.{Interval}
use Rattle.trains.specs.Braking.{Numbers}
use Rattle.driving.specs.Journeys.{SetsOff, Moves}
use Rattle.entering.specs.Faults.{ruled}
use Rattle.sheet.specs.Sheets.{Heading, Tables, passed_row, blank_heading}
use Rattle.sheet.specs.Changes.{row_written}
use Rattle.sheet.specs.Faults.{start_fault}
use Rattle.sheet.specs.States.{open_heading, passed_heading, running_heading, pass_of, book_of, passed_of, journey_of, report_of}
use Rattle.sheet.specs.declared.open.OpenSheet.{OpenSheet}
use Rattle.sheet.specs.declared.closed.ClosedSheet.{ClosedSheet}
use Rattle.sheet.specs.declared.passed.PassedSheet.{PassedSheet}
use Rattle.sheet.specs.declared.running.RunningSheet.{RunningSheet}
use Rattle.sheet.specs.declared.refused.Refused.{Refused}
use Rattle.sheet.specs.declared.reports.Report.{Report}
use Rattle.sheet.specs.declared.lent.LentTables.{LentTables}

abbrev pub Blanks : ℕ → Result OpenSheet Refusal → Type 0
Blanks start (Ok sheet) = (start_fault start ≡ None) × (open_heading sheet ≡ blank_heading start)
Blanks start (Err why) = start_fault start ≡ Some why

pub record Changed {X : Type 0} (fault : Option Refusal) (grown : Heading) (written : List X) (before : Heading) (table : List X)
    (r : Result (Unit {0}) Refusal) (after : Heading) (left : List X) : Type 0 where
  pub answer : told r ≡ ruled fault tt
  pub heading : after ≡ cond (is_ok r) grown before
  pub holds : left ≡ cond (is_ok r) written table

-- the same of an open sheet, whose heading grows
abbrev pub Edits : {X : Type 0} → Option Refusal → (Heading → Heading) → List X → OpenSheet → List X → Result (Unit {0}) Refusal → OpenSheet → List X → Type 0
Edits fault grow written before table r after left = Changed fault (grow (open_heading before)) written (open_heading before) table r (open_heading after) left

abbrev pub Closes : Option Refusal → OpenSheet → Result ClosedSheet (Refused OpenSheet) → Type 0
Closes fault sheet (Ok closed) = (fault ≡ None) × (closed.base ≡ sheet.base)
Closes fault sheet (Err refused) = (fault ≡ Some refused.why) × (refused.sheet ≡ sheet)

-- the tables that are lent, with a row table beside them
abbrev pub tables_of : LentTables → List ℕ → Tables
tables_of lent row = record {
  intervals = lent.intervals.now;
  gradients = lent.gradients.now;
  restrictions = lent.restrictions.now;
  marks = lent.marks.now;
  row = row;
}

-- whether a table is lent under its count goes first
abbrev pub Works : Bool → Drawing → ℕ → ℕ → Emergencies → Services → List ℕ → Result (StopLetter × ℕ) Refusal → List ℕ → Type 0
Works true drawing mark approach E D before r after = (told r ≡ refuses (10, [])) × (after ≡ before)
Works false drawing mark approach E D before (Ok t) after = Worked drawing mark approach E D after t.0 t.1
Works false drawing mark approach E D before (Err why) after = Unworked drawing mark approach E D before (notice why) × (after ≡ before)

-- the sheet that a pass gives: over the same records, for this mark and approach code, served by this book; the row is in the row table
pub record PassesTo {B : Type 0} (book : B) (drawing : Drawing) (mark approach : ℕ) (E : Emergencies) (D : Services) (row : List ℕ)
    (sheet : ClosedSheet) (table : List ℕ) (passed : PassedSheet B) (left : List ℕ) : Type 0 where
  pub pass : Passed drawing mark approach E D row
  pub base : passed.base ≡ sheet.base
  pub fixes : pass_of passed ≡ record { mark = mark_of pass.target; approach = pass.speed }
  pub serves : book_of passed ≡ book
  pub holds : left ≡ row_written row table

abbrev pub Submitted : {B : Type 0} → B → Bool → Drawing → ℕ → ℕ → Emergencies → Services → List ℕ → ClosedSheet → List ℕ → Result (PassedSheet B) (Refused ClosedSheet) → List ℕ → Type 0
Submitted book true drawing mark approach E D row sheet table (Ok passed) left = ⊥
Submitted book true drawing mark approach E D row sheet table (Err refused) left = (notice refused.why ≡ (10, [])) × (refused.sheet ≡ sheet) × (left ≡ table)
Submitted book false drawing mark approach E D row sheet table (Ok passed) left = PassesTo book drawing mark approach E D row sheet table passed left
Submitted book false drawing mark approach E D row sheet table (Err refused) left =
    Failed drawing mark approach E D row (notice refused.why) × (refused.sheet ≡ sheet) × (left ≡ table)

-- a line whose start, lengths and gradients are known; restrictions do not matter to a train under way
abbrev pub track_with : Heading → List ℕ → List (Entry Class) → List (Entry Speed) → Track
track_with heading lengths gradients restrictions =
    record { start = heading.start; lengths = lengths; gradients = contents gradients heading.gradients; restrictions = restrictions }

-- the train was put at the start and heard the first code
pub record RunsOver {B T : Type 0} (E : Emergencies) (numbers : T → Numbers) (sheet : PassedSheet B) (train : T) (gradients : List (Entry Class)) (row : List ℕ)
    (running : RunningSheet B T) : Type 0 where
  pub passed : passed_of running ≡ sheet
  pub sets_off : (lengths : List ℕ) (restrictions : List (Entry Speed))
      → SetsOff (track_with (passed_heading sheet) lengths gradients restrictions) (pass_of sheet).mark E (passed_row (pass_of sheet) row)
      (numbers train) (journey_of numbers running) ((journey_of numbers running).train.pace ∷ [])

abbrev pub SetsOut : {B T : Type 0} → Emergencies → (T → Numbers) → Option Refusal → PassedSheet B → T → List (Entry Class) → List ℕ
    → Result (RunningSheet B T) (Refused (PassedSheet B × T)) → Type 0
SetsOut E numbers fault sheet train gradients row (Ok running) = (fault ≡ None) × RunsOver E numbers sheet train gradients row running
SetsOut E numbers fault sheet train gradients row (Err refused) = (fault ≡ Some refused.why) × (refused.sheet ≡ (sheet, train))

-- one metre on
pub record MovesOn {B T : Type 0} (E : Emergencies) (numbers : T → Numbers) (sheet : RunningSheet B T) (intervals : List Interval) (gradients : List (Entry Class)) (row : List ℕ)
    (after : RunningSheet B T) : Type 0 where
  pub passed : passed_of after ≡ passed_of sheet
  pub paces : List ℕ
  pub moves : (restrictions : List (Entry Speed))
      → Moves (track_with (running_heading sheet) (lengths_of (contents intervals (running_heading sheet).intervals)) gradients restrictions) (pass_of (passed_of sheet)).mark E
      (passed_row (pass_of (passed_of sheet)) row) (journey_of numbers sheet) (journey_of numbers after) paces

-- a train that stands moves nothing
abbrev pub Stepped : {B T : Type 0} → Emergencies → (T → Numbers) → Option Refusal → Bool → RunningSheet B T → List Interval → List (Entry Class) → List ℕ
    → Result Report Refusal → RunningSheet B T → Type 0
Stepped E numbers (Some why) still sheet intervals gradients row r after = (r ≡ Err why) × (after ≡ sheet)
Stepped E numbers None true sheet intervals gradients row r after = (r ≡ Ok (report_of (journey_of numbers sheet))) × (after ≡ sheet)
Stepped E numbers None false sheet intervals gradients row r after =
    (r ≡ Ok (report_of (journey_of numbers after))) × MovesOn E numbers sheet intervals gradients row after
