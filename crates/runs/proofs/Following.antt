-- What holds of a sheet in a run: it stands as the calls and answers so far say. Assumes nothing.
--     Stock size count table      a table that has kept its size, with so many of its records in use
--     Sound sizes heading tables  the tables have kept their sizes, and what is entered is fit
--     WorkedOn d w               the worked row w is the highest lawful one of the drawing
--     Passing d sought bytes pass     the passed row is lawful, up to the mark that was sought
--     Underway .. journey         a train is on its way over it
--     In d bytes rows sought phase    what a sheet's phase says of the rows worked out, of the pass and of the train
--     Follows rows sought sheet   the sheet stands as a history with these worked rows and this mark sought says
--     history_on sheet rows sought    that history
--     Kept rows sought sheet call o after     the answer is right, and the sheet after the call follows the history after it
use Rattle.std.proofs.Common.{◌≡◌, ℕ, ◌≤◌, cond, List, [], length}
use Rattle.std.specs.List.{AllByRecursion}
use Rattle.laws.specs.Books.{Emergencies, Services, Distances, Laws}
use Rattle.ground.specs.Tables.{contents}
use Rattle.rules.specs.Rules.{Lawful}
use Rattle.rows.specs.declared.targets.Target.{Target}
use Rattle.rows.specs.declared.letters.StopLetter.{StopLetter}
use Rattle.rows.specs.Drawings.{Drawing, track_drawn}
use Rattle.rows.specs.Targets.{LocatedAt, mark_of}
use Rattle.rows.specs.WorkingOut.{Worked}
use Rattle.driving.specs.Journeys.{Journey}
use Rattle.driving.specs.Safety.{Drawn}
use Rattle.driving.proofs.Ways.{On}
use Rattle.entering.specs.Entering.{most_intervals, FitInterval, FitMark}
use Rattle.sheet.specs.Sheets.{Heading, Tables, Pass, Phase, drawing, closed, passed, running, Sheet, drawn, passed_row}
use Rattle.sheet.specs.Faults.{first_start}
use Rattle.runs.specs.Orders.{Call, Outcome, accepted}
use Rattle.runs.specs.Law.{Sizes, WorkedRow, History, Right, entered, rows_after, sought_after}

pub record Stock {X : Type 0} (size count : ℕ) (table : List X) : Type 0 where
  pub size_kept : size ≡ length table
  pub within : count ≤ length table

pub record Sound (sizes : Sizes) (heading : Heading) (tables : Tables) : Type 0 where
  pub start : first_start ≤ heading.start
  pub intervals : Stock sizes.intervals heading.intervals tables.intervals
  pub gradients : Stock sizes.gradients heading.gradients tables.gradients
  pub restrictions : Stock sizes.restrictions heading.restrictions tables.restrictions
  pub marks : Stock sizes.marks heading.marks tables.marks
  pub row : sizes.row ≡ length tables.row
  pub most : heading.intervals ≤ most_intervals
  pub fit_intervals : AllByRecursion FitInterval (contents tables.intervals heading.intervals)
  pub fit_marks : AllByRecursion FitMark (contents tables.marks heading.marks)

abbrev pub history_on : Sheet → List WorkedRow → ℕ → History
history_on sheet rows sought = record { drawing = drawn sheet.heading sheet.tables; worked_rows = rows; sought = sought }

module _ (E : Emergencies) (D : Services) (distances : Distances E D) (laws : Laws E D) where
  abbrev pub WorkedOn : Drawing → WorkedRow → Type 0
  WorkedOn d w = (letter : StopLetter) × (place : ℕ) × Worked d w.mark w.approach E D w.row letter place

  pub record Passing (d : Drawing) (sought : ℕ) (bytes : List ℕ) (pass : Pass) : Type 0 where
    pub target : Target
    pub located : LocatedAt d sought target
    pub mark : pass.mark ≡ mark_of target
    pub stands : Drawn (track_drawn d) pass.mark
    pub lawful : Lawful (track_drawn d) pass.mark E D pass.approach (passed_row pass bytes)

  pub record Underway (d : Drawing) (sought : ℕ) (bytes : List ℕ) (pass : Pass) (journey : Journey) : Type 0 where
    pub passing : Passing d sought bytes pass
    pub on : On (track_drawn d) pass.mark passing.stands E D distances laws pass.approach (passed_row pass bytes) passing.lawful journey

  abbrev pub In : Drawing → List ℕ → List WorkedRow → ℕ → Phase → Type 0
  In d bytes rows sought drawing = rows ≡ []
  In d bytes rows sought closed = AllByRecursion (WorkedOn d) rows
  In d bytes rows sought (passed pass) = AllByRecursion (WorkedOn d) rows × Passing d sought bytes pass
  In d bytes rows sought (running pass journey) = AllByRecursion (WorkedOn d) rows × Underway d sought bytes pass journey

  module _ (sizes : Sizes) where
    pub record Follows (rows : List WorkedRow) (sought : ℕ) (sheet : Sheet) : Type 0 where
      pub sound : Sound sizes sheet.heading sheet.tables
      pub inside : In (drawn sheet.heading sheet.tables) sheet.tables.row rows sought sheet.phase

    pub record Kept (rows : List WorkedRow) (sought : ℕ) (sheet : Sheet) (call : Call) (o : Outcome) (after : Sheet) : Type 0 where
      pub right : Right E D sizes (history_on sheet rows sought) call o
      pub drawing : cond (accepted o) (entered (drawn sheet.heading sheet.tables) call.order) (drawn sheet.heading sheet.tables)
          ≡ drawn after.heading after.tables
      pub follows : Follows (rows_after rows call.order o) (sought_after sought call.order o) after
