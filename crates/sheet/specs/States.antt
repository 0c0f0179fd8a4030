-- What the typed sheets mean. Assumes nothing.
--     heading_of base           the start and the counts
--     open_heading, closed_heading, passed_heading, running_heading    those of a sheet in each state
--     pass_of sheet             the mark and the approach code that a pass has fixed
--     book_of sheet             the book that serves it
--     journey_of numbers sheet  where the train is, what it was told last, and its five numbers
--     report_of journey         where the train of the journey is, how fast, and whether it stands
use Rattle.trains.specs.Braking.{Numbers}
use Rattle.driving.specs.Journeys.{Journey, stands}
use Rattle.rows.specs.Targets.{mark_of}
use Rattle.sheet.specs.declared.base.Base.{Base}
use Rattle.sheet.specs.declared.open.OpenSheet.{OpenSheet}
use Rattle.sheet.specs.declared.closed.ClosedSheet.{ClosedSheet}
use Rattle.sheet.specs.declared.passed.PassedSheet.{PassedSheet}
use Rattle.sheet.specs.declared.running.RunningSheet.{RunningSheet}
use Rattle.sheet.specs.declared.reports.Report.{Report}
use Rattle.sheet.specs.Sheets.{Heading, Pass}

abbrev pub heading_of : Base → Heading
heading_of base = record { start = base.start; intervals = base.intervals; gradients = base.gradients; restrictions = base.restrictions; marks = base.marks }

abbrev pub open_heading : OpenSheet → Heading
open_heading sheet = heading_of sheet.base

abbrev pub closed_heading : ClosedSheet → Heading
closed_heading sheet = heading_of sheet.base

abbrev pub passed_heading : {B : Type 0} → PassedSheet B → Heading
passed_heading sheet = heading_of sheet.base

abbrev pub pass_of : {B : Type 0} → PassedSheet B → Pass
pass_of sheet = record { mark = mark_of sheet.fixed.target; approach = sheet.fixed.approach }

abbrev pub book_of : {B : Type 0} → PassedSheet B → B
book_of sheet = sheet.book.now

abbrev pub passed_of : {B T : Type 0} → RunningSheet B T → PassedSheet B
passed_of sheet = sheet.passed

abbrev pub running_heading : {B T : Type 0} → RunningSheet B T → Heading
running_heading sheet = passed_heading sheet.passed

abbrev pub train_of : {B T : Type 0} → RunningSheet B T → T
train_of sheet = sheet.train

abbrev pub journey_of : {B T : Type 0} → (T → Numbers) → RunningSheet B T → Journey
journey_of numbers sheet = record { position = sheet.head.position; told = sheet.head.told; train = numbers sheet.train }

abbrev pub report_of : Journey → Report
report_of journey = record { position = journey.position; pace = journey.train.pace; stands = stands journey }
