-- What entering, striking and passing change of a sheet's counts and tables. Assumes nothing.
--     more_intervals h, .., fewer_gradients h, ..    a heading with one record more, or one fewer, in use
--     with_intervals xs tables, ..                   the tables with another one in the place of one
--     row_written row table                          the row table with a row in its first bytes
use Rattle.std.specs.Prelude.{ℕ, ◌+◌, ◌-◌, List, ◌++◌, length, drop}
use Rattle.codes.specs.declared.gradients.Class.{Class}
use Rattle.codes.specs.declared.speeds.Speed.{Speed}
use Rattle.ground.specs.declared.entries.Entry.{Entry}
use Rattle.rules.specs.declared.lines.Interval.{Interval}
use Rattle.rules.specs.declared.lines.StopMark.{StopMark}
use Rattle.sheet.specs.Sheets.{Heading, Tables}

abbrev pub more_intervals : Heading → Heading
more_intervals h = record h { intervals = h.intervals + 1 }

abbrev pub more_gradients : Heading → Heading
more_gradients h = record h { gradients = h.gradients + 1 }

abbrev pub more_restrictions : Heading → Heading
more_restrictions h = record h { restrictions = h.restrictions + 1 }

abbrev pub more_marks : Heading → Heading
more_marks h = record h { marks = h.marks + 1 }

abbrev pub fewer_gradients : Heading → Heading
fewer_gradients h = record h { gradients = h.gradients - 1 }

abbrev pub fewer_restrictions : Heading → Heading
fewer_restrictions h = record h { restrictions = h.restrictions - 1 }

abbrev pub with_intervals : List Interval → Tables → Tables
with_intervals xs t = record t { intervals = xs }

abbrev pub with_gradients : List (Entry Class) → Tables → Tables
with_gradients xs t = record t { gradients = xs }

abbrev pub with_restrictions : List (Entry Speed) → Tables → Tables
with_restrictions xs t = record t { restrictions = xs }

abbrev pub with_marks : List StopMark → Tables → Tables
with_marks xs t = record t { marks = xs }

abbrev pub with_row : List ℕ → Tables → Tables
with_row bytes t = record t { row = bytes }

abbrev pub row_written : List ℕ → List ℕ → List ℕ
row_written row table = row ++ drop (length row) table
