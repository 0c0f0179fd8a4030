-- The two readings of rule 1 agree. Assumes nothing.
use Rattle.std.proofs.Common.{ℕ, zero, suc, ◌<◌, ◌≤◌, ◌↔◌, List, arith}
use Rattle.std.specs.List.{ContainsAt, AllByRecursion}
use Rattle.std.proofs.ByRecursion.{All-weaker, all-has, all_has_itself}
use Rattle.codes.specs.declared.speeds.Speed.{Speed}
use Rattle.codes.specs.declared.speeds.Code.{Code}
use Rattle.codes.specs.declared.speeds.Code.TheVariants.{Stop, Go}
use Rattle.codes.specs.Speeds.{kmh}
use Rattle.ground.specs.declared.entries.Entry.{Entry}
use Rattle.ground.specs.Grading.{AsBad}
use Rattle.ground.specs.Ground.{stretch_value}
use Rattle.ground.specs.Kinds.{slowness}
use Rattle.ground.specs.StretchLaws.{Meets}
use Rattle.ground.proofs.Laws.{stretches}
use Rattle.ground.specs.BothKinds.{slowness_lawful, slow_from_as_bad, as_bad_from_slow, slowness_harmless}
use Rattle.laws.specs.Books.{Emergencies, Services}
use Rattle.rules.specs.Tracks.{Track, Mark, Stands, begin_of, end_of}
use Rattle.rules.specs.Rules.{Touching}
use Rattle.rules.specs.Readings.{NoneEmpty, reach_begin, reach_end, Reaches, BelowWorst, Readings}
use Rattle.rules.proofs.Moved.{moved_none, moved_rises}

-- a speed is at most the worst of a stretch exactly if it is at most each speed that has a metre of it
below_entries : (entries : List (Entry Speed)) (a b : ℕ) → a < b → (v : Speed) → (kmh v ≤ kmh (stretch_value slowness entries a b)) ↔ AllByRecursion (λ x. Meets a b x → kmh v ≤ kmh x.value) entries
below_entries entries a b l v =
    let law = (stretches slowness_lawful entries).entrywise v a b l in (
      λ below. All-weaker (λ x. Meets a b x → AsBad slowness v x.value) (λ x. Meets a b x → kmh v ≤ kmh x.value) (λ x bad meets. slow_from_as_bad v x.value (bad meets)) entries
          (law.0 (as_bad_from_slow v (stretch_value slowness entries a b) below)).0,
      λ each. slow_from_as_bad v (stretch_value slowness entries a b)
          (law.1 (
            All-weaker (λ x. Meets a b x → kmh v ≤ kmh x.value) (λ x. Meets a b x → AsBad slowness v x.value) (λ x low meets. as_bad_from_slow v x.value (low meets)) entries each,
            λ bare. slowness_harmless v,
          )),
    )

-- ---- where intervals begin

start_first : (track : Track) (j : ℕ) → track.start ≤ end_of track j
start_first track j = let none = moved_none track.start track.lengths in let rises = moved_rises track.start track.lengths 0 j (omega arith) in omega arith

begin_rises : (track : Track) (i j : ℕ) → i ≤ j → begin_of track i ≤ begin_of track j
begin_rises track zero zero l = omega arith
begin_rises track zero (suc j) l = let first = start_first track j in omega arith
begin_rises track (suc i) zero l = absurd (omega arith)
begin_rises track (suc i) (suc j) l = moved_rises track.start track.lengths i j (omega arith)

begin_first : (track : Track) (j : ℕ) → begin_of track j ≤ end_of track j
begin_first track zero = let first = start_first track 0 in omega arith
begin_first track (suc j) = moved_rises track.start track.lengths j (suc j) (omega arith)

-- ---- the two readings

module _ (track : Track) (mark : Mark) (E : Emergencies) (D : Services) where
  agree : NoneEmpty track.restrictions → (j : ℕ) → Reaches track mark j → (c : Code) → Touching track mark E D j c ↔ BelowWorst track mark j c
  agree some j reaches Stop = (
    λ touching. omega arith,
    λ below. All-weaker (ContainsAt track.restrictions) _ (λ x has before ends begins. omega arith) track.restrictions (all_has_itself track.restrictions),
  )
  agree some j reaches (Go v) =
      let law = below_entries track.restrictions (reach_begin track j) (reach_end track mark j) reaches v in (
        λ touching. law.1
            (All-weaker _ (λ x. Meets (reach_begin track j) (reach_end track mark j) x → kmh v ≤ kmh x.value) (λ x low meets. low (omega arith) (omega arith) (omega arith)) track.restrictions touching),
        λ below.
            let each = law.0 below in
            All-weaker (ContainsAt track.restrictions) _
            (λ x has before ends begins. all-has _ track.restrictions x each has (let metre = all-has (λ (x : Entry Speed). x.from < x.to) track.restrictions x some has in omega arith))
            track.restrictions (all_has_itself track.restrictions),
      )

  reaches : 1 ≤ track.start → Stands track mark → mark.position ≤ mark.danger → (j : ℕ) → j ≤ mark.interval → Reaches track mark j
  reaches positive stands behind j within =
      let start = start_first track j in
      let end = begin_first track j in
      let rises = begin_rises track j mark.interval within in
      let begins = stands.begins in
      omega arith

pub readings : Readings
readings track mark E D = record { agree = agree track mark E D; reaches = reaches track mark E D }
