-- One call of a train under way over a line's records and a row's bytes. Assumes nothing.
--     track_over start intervals gradients restrictions    the line that these records describe
--     under_way head train     the journey of a train whose head it is
--     code_in bytes i          the code of interval i + 1 by a row's bytes; stop behind the row
--     behind gradients p       the class of the train's length behind position p
--     is_told begin p code told    whether the code of an interval with this begin is heard at position p
--     Due .. p told r          r is the code that a train hears at position p, if it hears one
--     Departs ..               the train has set off
--     Advances ..              the train has made one step
use Rattle.std.specs.Prelude.{◌≡◌, ℕ, ◌-◌, ◌<◌, Bool, not, ◌&&◌, List, [], ◌∷◌, length, Some, None, Option, ◌==◌, slice_index_or}
use Rattle.codes.specs.declared.speeds.Speed.{Speed}
use Rattle.codes.specs.declared.speeds.Code.{Code}
use Rattle.codes.specs.declared.speeds.Code.TheVariants.{Stop}
use Rattle.codes.specs.declared.gradients.Class.{Class}
use Rattle.codes.specs.Speeds.{byte}
use Rattle.ground.specs.declared.entries.Entry.{Entry}
use Rattle.ground.specs.Ground.{stretch_value}
use Rattle.ground.specs.Kinds.{steepness}
use Rattle.laws.specs.Books.{Emergencies}
use Rattle.rules.specs.declared.lines.Interval.{Interval}
use Rattle.rules.specs.Tracks.{Track, Mark}
use Rattle.rules.specs.Rules.{train_length}
use Rattle.rows.specs.Drawings.{lengths_of}
use Rattle.rows.specs.Passing.{codes_of}
use Rattle.trains.specs.Braking.{Numbers}
use Rattle.driving.specs.declared.heads.Head.{Head}
use Rattle.driving.specs.Journeys.{Journey, Differs, SetsOff, Moves}

abbrev pub track_over : ℕ → List Interval → List (Entry Class) → List (Entry Speed) → Track
track_over start intervals gradients restrictions = record { start = start; lengths = lengths_of intervals; gradients = gradients; restrictions = restrictions }

abbrev pub under_way : Head → Numbers → Journey
under_way head train = record { position = head.position; told = head.told; train = train }

abbrev pub code_in : List ℕ → ℕ → Code
code_in bytes i = slice_index_or (codes_of bytes) i Stop

abbrev pub behind : List (Entry Class) → ℕ → Class
behind gradients p = stretch_value steepness gradients (p - train_length) p

abbrev pub is_told : ℕ → ℕ → Code → Code → Bool
is_told begin p code told = begin == p && not (byte code == byte told)

-- the first interval whose code a train hears at position p
pub record FirstDue (track : Track) (mark : Mark) (row : List Code) (p : ℕ) (told code : Code) : Type 0 where
  pub place : ℕ
  pub differs : Differs track mark row told p place
  pub first : (k : ℕ) → k < place → Differs track mark row told p k → ⊥
  pub tells : code ≡ slice_index_or row place Stop

abbrev pub Due : Track → Mark → List Code → ℕ → Code → Option Code → Type 0
Due track mark row p told (Some code) = FirstDue track mark row p told code
Due track mark row p told None = (i : ℕ) → Differs track mark row told p i → ⊥

module _ (E : Emergencies) (start : ℕ) where
  -- whatever the intervals, the restrictions and the mark, and for every row that begins with the code
  abbrev pub Departs : List (Entry Class) → Code → Numbers → Head → Numbers → Type 0
  Departs gradients first before head after =
      (intervals : List Interval) (restrictions : List (Entry Speed)) (mark : Mark) (row : List Code) → slice_index_or row 0 Stop ≡ first
      → SetsOff (track_over start intervals gradients restrictions) mark E row before (under_way head after) (after.pace ∷ [])

  -- whatever the restrictions, before a mark in the interval of the row's last byte
  abbrev pub Advances : List Interval → List (Entry Class) → List ℕ → Journey → Journey → Type 0
  Advances intervals gradients bytes before after =
      (restrictions : List (Entry Speed)) (mark : Mark) → mark.interval ≡ length bytes
      → (paces : List ℕ) × Moves (track_over start intervals gradients restrictions) mark E (codes_of bytes) before after paces
