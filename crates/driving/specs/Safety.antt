-- What is safe of a train under way, and that trains over a lawful row are. Assumes nothing.
--     Drawn track mark        the line is one that a sheet can have, and the mark stands on it
--     Binds x p               restriction x binds a train whose head is at position p
--     Safe track mark journey     the head is not above the danger point, and the pace is at most the speed of each restriction that binds it
--     Run .. train journey    the train has set off, and came to this journey step by step
--     RunsAreSafe           a train that sets off at no more than the approach code over a lawful row is safe at any time
use Rattle.std.specs.Prelude.{◌≡◌, ℕ, ◌+◌, ◌<◌, ◌≤◌, false, List}
use Rattle.std.specs.List.{AllByRecursion}
use Rattle.codes.specs.declared.speeds.Speed.{Speed}
use Rattle.codes.specs.declared.speeds.Code.{Code}
use Rattle.codes.specs.Speeds.{kmh}
use Rattle.ground.specs.declared.entries.Entry.{Entry}
use Rattle.laws.specs.Books.{Emergencies, Services}
use Rattle.rules.specs.Tracks.{Track, Mark, Stands}
use Rattle.rules.specs.Rules.{train_length, Lawful}
use Rattle.trains.specs.Braking.{Numbers}
use Rattle.driving.specs.Journeys.{Journey, stands, last_position, SetsOff, Moves}

pub record Drawn (track : Track) (mark : Mark) : Type 0 where
  pub start_least : 1000 ≤ track.start
  pub lengths : AllByRecursion (λ metres. 1 ≤ metres) track.lengths
  pub stands : Stands track mark
  pub danger_least : mark.position ≤ mark.danger
  pub danger_most : mark.danger < last_position

-- from its first metre until the end of the longest train has left its last
abbrev pub Binds : Entry Speed → ℕ → Type 0
Binds x p = (x.from ≤ p) × (p < x.to + train_length)

pub record Safe (track : Track) (mark : Mark) (journey : Journey) : Type 0 where
  pub short : journey.position ≤ mark.danger
  pub slow : AllByRecursion (λ x. Binds x journey.position → journey.train.pace ≤ kmh x.value) track.restrictions

module _ (track : Track) (mark : Mark) (E : Emergencies) (row : List Code) where
  pub data Run (train : Numbers) : Journey → Type 0 where
    set_off : {journey : Journey} {paces : List ℕ} → SetsOff track mark E row train journey paces → Run train journey
    further : {before after : Journey} {paces : List ℕ} → Run train before → stands before ≡ false → Moves track mark E row before after paces → Run train after

abbrev pub RunsAreSafe : Emergencies → Services → Type 0
RunsAreSafe E D = (track : Track) (mark : Mark) → Drawn track mark → (approach : Speed) (row : List Code) → Lawful track mark E D approach row
    → (train : Numbers) → train.pace ≤ kmh approach → (journey : Journey) → Run track mark E row train journey → Safe track mark journey
