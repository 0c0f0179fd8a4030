-- The line that records describe, and where a mark stands on it. Assumes nothing.
--     track_of line            the line as the rules see it
--     marked marks n           the first of the marks with number n
--     Holds start lengths position r    r is the interval in which a position lies, if there is one
--     Located drawing n r         r is where mark n stands; else it is refused by 8
use Rattle.std.specs.Prelude.{◌≡◌, ℕ, ◌-◌, ◌<◌, ◌≤◌, List, [], length, Some, None, Ok, Err, Option, Result, ◌==◌}
use Rattle.std.specs.List.{find}
use Rattle.codes.specs.declared.refusals.Refusal.{Refusal}
use Rattle.codes.specs.Refusals.{notice}
use Rattle.rules.specs.declared.lines.Line.{Line}
use Rattle.rules.specs.declared.lines.StopMark.{StopMark}
use Rattle.rules.specs.Tracks.{Track, Mark, moved_on}
use Rattle.rows.specs.Drawings.{Drawing, drawing_of, track_drawn, lengths_of}
use Rattle.rows.specs.declared.targets.Held.{Held}
use Rattle.rows.specs.declared.targets.Target.{Target}

-- the line that a caller lends, as the rules see it
abbrev pub track_of : Line → Track
track_of line = track_drawn (drawing_of line)

abbrev pub marked : List StopMark → ℕ → Option StopMark
marked marks number = find (λ (mark : StopMark). mark.number == number) marks

-- where an interval begins and ends, and the position between
pub record HeldBy (start : ℕ) (lengths : List ℕ) (position : ℕ) (held : Held) : Type 0 where
  pub first : 1 ≤ held.interval
  pub last : held.interval ≤ length lengths
  pub begin_is : held.begin ≡ moved_on start lengths (held.interval - 1)
  pub end_is : held.end ≡ moved_on start lengths held.interval
  pub begins : held.begin < position
  pub ends : position ≤ held.end

abbrev pub Holds : ℕ → List ℕ → ℕ → Option Held → Type 0
Holds start lengths position (Some held) = HeldBy start lengths position held
Holds start lengths position None = (h : ℕ) → 1 ≤ h → h ≤ length lengths → moved_on start lengths (h - 1) < position → position ≤ moved_on start lengths h → ⊥

-- the mark with its interval, as the rules see it
abbrev pub mark_of : Target → Mark
mark_of target = record { position = target.position; danger = target.danger; interval = target.held.interval }

pub record LocatedAt (drawing : Drawing) (number : ℕ) (target : Target) : Type 0 where
  pub mark : StopMark
  pub marks : marked drawing.marks number ≡ Some mark
  pub position : target.position ≡ mark.position
  pub danger : target.danger ≡ mark.danger
  pub held : HeldBy drawing.start (lengths_of drawing.intervals) target.position target.held

-- no mark has the number, or the mark stands in no interval
abbrev pub Absent : Drawing → ℕ → Type 0
Absent drawing number = (mark : StopMark) → marked drawing.marks number ≡ Some mark → Holds drawing.start (lengths_of drawing.intervals) mark.position None

abbrev pub Located : Drawing → ℕ → Result Target Refusal → Type 0
Located drawing number (Ok target) = LocatedAt drawing number target
Located drawing number (Err w) = (notice w ≡ (8, [])) × Absent drawing number
