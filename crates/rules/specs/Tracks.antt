-- A line in one driving direction, and a stop mark on it. Assumes nothing.
--     Track               where the line starts, the lengths of its intervals, and what is drawn over it
--     end_of track j      where interval j ends; interval 0, the approach, is the one metre before the start
--     begin_of track j    where interval j begins
--     length_of track j   how long interval j is
--     class_over track a b    the gradient class of the stretch from a to b
--     Mark                a stop mark: its position, its danger point and the place of its interval, counted from 1
--     Stands track mark   the mark's position lies in its interval, behind the begin and not behind the end
use Rattle.std.specs.Prelude.{ℕ, zero, suc, ◌+◌, ◌-◌, ◌<◌, ◌≤◌, List, [], ◌∷◌, length, slice_index}
use Rattle.codes.specs.declared.speeds.Speed.{Speed}
use Rattle.codes.specs.declared.gradients.Class.{Class}
use Rattle.ground.specs.declared.entries.Entry.{Entry}
use Rattle.ground.specs.Ground.{stretch_value}
use Rattle.ground.specs.Kinds.{steepness}

pub record Track : Type 0 where
  pub start : ℕ
  pub lengths : List ℕ
  pub gradients : List (Entry Class)
  pub restrictions : List (Entry Speed)

-- a position, moved on by the first j lengths
unfoldable pub moved_on : ℕ → List ℕ → ℕ → ℕ
moved_on position lengths zero = position
moved_on position [] (suc j) = position
moved_on position (metres ∷ lengths) (suc j) = moved_on (position + metres) lengths j

abbrev pub end_of : Track → ℕ → ℕ
end_of track j = moved_on track.start track.lengths j

abbrev pub begin_of : Track → ℕ → ℕ
begin_of track zero = track.start - 1
begin_of track (suc j) = end_of track j

abbrev pub length_of : Track → ℕ → ℕ
length_of track zero = 1
length_of track (suc j) = slice_index track.lengths j

abbrev pub class_over : Track → ℕ → ℕ → Class
class_over track a b = stretch_value steepness track.gradients a b

pub record Mark : Type 0 where
  pub position : ℕ
  pub danger : ℕ
  pub interval : ℕ

pub record Stands (track : Track) (mark : Mark) : Type 0 where
  pub first : 1 ≤ mark.interval
  pub last : mark.interval ≤ length track.lengths
  pub begins : begin_of track mark.interval < mark.position
  pub ends : mark.position ≤ end_of track mark.interval
