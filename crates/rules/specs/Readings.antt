-- Rule 1 read by the ground instead of restriction by restriction. Assumes nothing.
--     NoneEmpty entries            each entry has a metre at least
--     reach_begin track j          a train's length before interval j begins
--     reach_end track mark j       where interval j ends, or the danger point where that comes first
--     Reaches track mark j         there is a metre between the two
--     BelowWorst track mark j c    the code is not above the lowest restriction speed between the two, 120 km/h where none is drawn
--     Readings                     on every line the two readings of rule 1 agree where each restriction and the reach of the
--                                  interval have a metre, and up to a mark's interval the reach has one
use Rattle.std.specs.Prelude.{ℕ, ◌-◌, ◌<◌, ◌≤◌, min, ◌↔◌, List}
use Rattle.std.specs.List.{AllByRecursion}
use Rattle.codes.specs.declared.speeds.Code.{Code}
use Rattle.codes.specs.Speeds.{kmh, byte}
use Rattle.ground.specs.declared.entries.Entry.{Entry}
use Rattle.ground.specs.Ground.{stretch_value}
use Rattle.ground.specs.Kinds.{slowness}
use Rattle.laws.specs.Books.{Emergencies, Services}
use Rattle.rules.specs.Tracks.{Track, Mark, Stands, begin_of, end_of}
use Rattle.rules.specs.Rules.{train_length, Touching}

abbrev pub NoneEmpty : {V : Type 0} → List (Entry V) → Type 0
NoneEmpty entries = AllByRecursion (λ entry. entry.from < entry.to) entries

abbrev pub reach_begin : Track → ℕ → ℕ
reach_begin track j = begin_of track j - train_length

abbrev pub reach_end : Track → Mark → ℕ → ℕ
reach_end track mark j = min (end_of track j) mark.danger

abbrev pub Reaches : Track → Mark → ℕ → Type 0
Reaches track mark j = reach_begin track j < reach_end track mark j

abbrev pub BelowWorst : Track → Mark → ℕ → Code → Type 0
BelowWorst track mark j c = byte c ≤ kmh (stretch_value slowness track.restrictions (reach_begin track j) (reach_end track mark j))

pub record TwoReadings (track : Track) (mark : Mark) (E : Emergencies) (D : Services) : Type 0 where
  pub agree : NoneEmpty track.restrictions → (j : ℕ) → Reaches track mark j → (c : Code) → Touching track mark E D j c ↔ BelowWorst track mark j c
  -- on a line that starts behind 0, before a mark that stands on it and not behind its danger point
  pub reaches : 1 ≤ track.start → Stands track mark → mark.position ≤ mark.danger → (j : ℕ) → j ≤ mark.interval → Reaches track mark j

abbrev pub Readings : Type 0
Readings = (track : Track) (mark : Mark) (E : Emergencies) (D : Services) → TwoReadings track mark E D
