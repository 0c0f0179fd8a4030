-- The rules for one interval before a stop mark, in metres, and the highest codes that they leave it. Assumes nothing.
--     touches place x         whether restriction x begins before the danger point and touches the interval
--     lies_ahead place x      whether restriction x begins before the danger point, and not before the interval's end
--     Touched place x c       rule 1, by restriction x alone
--     Braked E gradients place x c    rule 2, by restriction x alone
--     Served D gradients place c      rule 3
--     Stopped E gradients place c     rule 4
--     Placed E D gradients restrictions place limits    the codes that obey rule 1, 2, 3 or 4 at the place are those up to
--                             the limit by that rule
--     At track mark j gradients restrictions place    the place is that of interval j and the mark, under what is drawn
--     Caps .. j limits        the codes that obey rule 1, 2, 3 or 4 in interval j are those up to the limit by that rule
--     Within limits c         the code is above none of the four limits; within is the test of a speed
use Rattle.std.specs.Prelude.{◌≡◌, ℕ, ◌+◌, ◌-◌, ◌<◌, ◌≤◌, Bool, not, ◌&&◌, List, nat_le, nat_lt}
use Rattle.std.specs.List.{AllByRecursion}
use Rattle.codes.specs.declared.speeds.Speed.{Speed}
use Rattle.codes.specs.declared.speeds.Code.{Code}
use Rattle.codes.specs.declared.speeds.Code.TheVariants.{Stop, Go}
use Rattle.codes.specs.declared.gradients.Class.{Class}
use Rattle.codes.specs.Speeds.{kmh, byte, lower}
use Rattle.ground.specs.declared.entries.Entry.{Entry}
use Rattle.ground.specs.Ground.{stretch_value}
use Rattle.ground.specs.Kinds.{steepness}
use Rattle.laws.specs.Books.{Emergencies, Services}
use Rattle.rules.specs.declared.places.Place.{Place}
use Rattle.rules.specs.declared.places.Limits.{Limits}
use Rattle.rules.specs.Tracks.{Track, Mark, begin_of, end_of}
use Rattle.rules.specs.Rules.{train_length, Down, Halts, Touching, Ahead, Service, Stopping}
use Rattle.rules.specs.Searching.{UpTo}

abbrev pub touches : Place → Entry Speed → Bool
touches place x = nat_lt x.from place.danger && nat_lt x.from place.end && nat_lt place.begin (x.to + train_length)

abbrev pub lies_ahead : Place → Entry Speed → Bool
lies_ahead place x = nat_lt x.from place.danger && nat_le place.end x.from

abbrev pub Touched : Place → Entry Speed → Code → Type 0
Touched place x c = x.from < place.danger → x.from < place.end → place.begin < x.to + train_length → byte c ≤ kmh x.value

abbrev pub Braked : Emergencies → List (Entry Class) → Place → Entry Speed → Code → Type 0
Braked E gradients place x c = x.from < place.danger → place.end ≤ x.from → Down E (stretch_value steepness gradients (place.end - train_length) x.from) c (Go x.value) (x.from - place.end)

abbrev pub Served : Services → List (Entry Class) → Place → Code → Type 0
Served D gradients place c = Halts (D (stretch_value steepness gradients (place.end - train_length) place.position)) c (place.position - place.end)

abbrev pub Stopped : Emergencies → List (Entry Class) → Place → Code → Type 0
Stopped E gradients place c = Halts (λ v. E (stretch_value steepness gradients (place.end - train_length) place.danger) v Stop) c (place.danger - place.end)

pub record Placed (E : Emergencies) (D : Services) (gradients : List (Entry Class)) (restrictions : List (Entry Speed)) (place : Place) (limits : Limits) : Type 0 where
  pub touching : UpTo (λ c. AllByRecursion (λ x. Touched place x c) restrictions) limits.touching
  pub ahead : UpTo (λ c. AllByRecursion (λ x. Braked E gradients place x c) restrictions) limits.ahead
  pub service : UpTo (Served D gradients place) limits.service
  pub stopping : UpTo (Stopped E gradients place) limits.stopping

pub record At (track : Track) (mark : Mark) (j : ℕ) (gradients : List (Entry Class)) (restrictions : List (Entry Speed)) (place : Place) : Type 0 where
  pub drawn : track.gradients ≡ gradients
  pub restricted : track.restrictions ≡ restrictions
  pub begins : begin_of track j ≡ place.begin
  pub ends : end_of track j ≡ place.end
  pub marked : mark.position ≡ place.position
  pub endangered : mark.danger ≡ place.danger

pub record Caps (track : Track) (mark : Mark) (E : Emergencies) (D : Services) (j : ℕ) (limits : Limits) : Type 0 where
  pub touching : UpTo (Touching track mark E D j) limits.touching
  pub ahead : UpTo (Ahead track mark E D j) limits.ahead
  pub service : UpTo (Service track mark E D j) limits.service
  pub stopping : UpTo (Stopping track mark E D j) limits.stopping

abbrev pub Within : Limits → Code → Type 0
Within limits c = (byte c ≤ byte limits.touching) × (byte c ≤ byte limits.ahead) × (byte c ≤ byte limits.service) × (byte c ≤ byte limits.stopping)

abbrev pub within : Limits → Speed → Bool
within limits speed = not (lower limits.touching (Go speed)) && not (lower limits.ahead (Go speed)) && not (lower limits.service (Go speed)) && not (lower limits.stopping (Go speed))
