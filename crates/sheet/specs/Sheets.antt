-- A sheet: what it keeps itself, the caller's tables that go with it, and its state. Assumes nothing.
--     Heading               a sheet's start, and how many records of each table are in use
--     Tables                the caller's five tables, whole
--     drawn heading tables  what is entered on a sheet: the records in use
--     Pass                  what a pass fixes until the sheet is left: the mark with its interval, and the approach code
--     Phase                 open, closed, passed, or running with a train under way
--     Sheet                 a sheet with its tables
--     passed_row pass row   the codes of the passed row: the first bytes of the row table, up to the mark's interval
use Rattle.std.specs.Prelude.{ℕ, List, take}
use Rattle.codes.specs.declared.speeds.Speed.{Speed}
use Rattle.codes.specs.declared.speeds.Code.{Code}
use Rattle.codes.specs.declared.gradients.Class.{Class}
use Rattle.ground.specs.declared.entries.Entry.{Entry}
use Rattle.ground.specs.Tables.{contents}
use Rattle.rules.specs.declared.lines.Interval.{Interval}
use Rattle.rules.specs.declared.lines.StopMark.{StopMark}
use Rattle.rules.specs.Tracks.{Mark}
use Rattle.rows.specs.Drawings.{Drawing}
use Rattle.rows.specs.Passing.{codes_of}
use Rattle.driving.specs.Journeys.{Journey}

pub record Heading : Type 0 where
  pub start : ℕ
  pub intervals : ℕ
  pub gradients : ℕ
  pub restrictions : ℕ
  pub marks : ℕ

pub record Tables : Type 0 where
  pub intervals : List Interval
  pub gradients : List (Entry Class)
  pub restrictions : List (Entry Speed)
  pub marks : List StopMark
  pub row : List ℕ

-- records behind the count mean nothing
abbrev pub drawn : Heading → Tables → Drawing
drawn heading tables = record {
  start = heading.start;
  intervals = contents tables.intervals heading.intervals;
  gradients = contents tables.gradients heading.gradients;
  restrictions = contents tables.restrictions heading.restrictions;
  marks = contents tables.marks heading.marks;
}

pub record Pass : Type 0 where
  pub mark : Mark
  pub approach : Speed

abbrev pub passed_row : Pass → List ℕ → List Code
passed_row pass row = codes_of (take pass.mark.interval row)

pub data Phase : Type 0 where
  drawing : Phase
  closed : Phase
  passed : Pass → Phase
  running : Pass → Journey → Phase

pub record Sheet : Type 0 where
  pub heading : Heading
  pub tables : Tables
  pub phase : Phase

-- a blank sheet: a start, and nothing entered
abbrev pub blank_heading : ℕ → Heading
blank_heading start = record { start = start; intervals = 0; gradients = 0; restrictions = 0; marks = 0 }

abbrev pub blank : ℕ → Tables → Sheet
blank start tables = record { heading = blank_heading start; tables = tables; phase = drawing }

abbrev pub in_phase : Phase → Sheet → Sheet
in_phase phase sheet = record { heading = sheet.heading; tables = sheet.tables; phase = phase }
