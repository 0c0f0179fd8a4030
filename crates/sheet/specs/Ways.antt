-- What a train under way reads. Assumes nothing.
--     IsWay heading gradients row pass way     the way has the gradients in use and the bytes of the passed row
--     GoesOn .. still before intervals way report after     what is told, and the train one metre on unless it stands
use Rattle.std.specs.Prelude.{◌≡◌, ℕ, Bool, true, false, List}
use Rattle.laws.specs.Books.{Emergencies}
use Rattle.rules.specs.declared.lines.Interval.{Interval}
use Rattle.trains.specs.Braking.{Numbers}
use Rattle.driving.specs.Driving.{Advances}
use Rattle.sheet.specs.States.{running_heading, passed_of, journey_of, report_of}
use Rattle.sheet.specs.declared.running.RunningSheet.{RunningSheet}
use Rattle.sheet.specs.declared.reports.Report.{Report}
use Rattle.codes.specs.declared.gradients.Class.{Class}
use Rattle.ground.specs.declared.entries.Entry.{Entry}
use Rattle.ground.specs.Tables.{contents}
use Rattle.sheet.specs.Sheets.{Heading, Pass}
use Rattle.sheet.specs.Faults.{passed_bytes}
use Rattle.sheet.specs.declared.way.Way.{Way}

pub record IsWay (heading : Heading) (gradients : List (Entry Class)) (row : List ℕ) (pass : Pass) (way : Way) : Type 0 where
  pub ground : way.gradients.now ≡ contents gradients heading.gradients
  pub bytes : way.row.now ≡ passed_bytes pass row

-- a train that stands moves nothing
abbrev pub GoesOn : {B T : Type 0} → Emergencies → (T → Numbers) → Bool → RunningSheet B T → List Interval → Way → Report → RunningSheet B T → Type 0
GoesOn E numbers true before intervals way report after = (report ≡ report_of (journey_of numbers before)) × (after ≡ before)
GoesOn E numbers false before intervals way report after =
    (report ≡ report_of (journey_of numbers after)) × (passed_of after ≡ passed_of before)
    × Advances E (running_heading before).start intervals way.gradients.now way.row.now (journey_of numbers before) (journey_of numbers after)
