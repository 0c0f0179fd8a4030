-- A line as its records say it, in plain lists. Assumes nothing.
--     Drawing               where a line starts, and its intervals, gradients, restrictions and stop marks
--     drawing_of line       what the records say that a caller has lent
--     track_drawn drawing   the line as the rules see it
use Rattle.std.specs.Prelude.{ℕ, List, map}
use Rattle.codes.specs.declared.speeds.Speed.{Speed}
use Rattle.codes.specs.declared.gradients.Class.{Class}
use Rattle.ground.specs.declared.entries.Entry.{Entry}
use Rattle.rules.specs.declared.lines.Line.{Line}
use Rattle.rules.specs.declared.lines.Interval.{Interval}
use Rattle.rules.specs.declared.lines.StopMark.{StopMark}
use Rattle.rules.specs.Tracks.{Track}

pub record Drawing : Type 0 where
  pub start : ℕ
  pub intervals : List Interval
  pub gradients : List (Entry Class)
  pub restrictions : List (Entry Speed)
  pub marks : List StopMark

abbrev pub drawing_of : Line → Drawing
drawing_of line = record {
  start = line.start;
  intervals = line.intervals.now;
  gradients = line.gradients.now;
  restrictions = line.restrictions.now;
  marks = line.marks.now;
}

abbrev pub lengths_of : List Interval → List ℕ
lengths_of intervals = map (λ (interval : Interval). interval.length) intervals

abbrev pub track_drawn : Drawing → Track
track_drawn drawing = record {
  start = drawing.start;
  lengths = lengths_of drawing.intervals;
  gradients = drawing.gradients;
  restrictions = drawing.restrictions;
}
