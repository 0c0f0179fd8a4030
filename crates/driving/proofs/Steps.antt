-- One step of a train, from what it rolled and what it heard. Assumes nothing.
use Rattle.std.proofs.Common.{◌≡◌, ℕ, ◌+◌, min, List, [], ◌∷◌, refl, subst}
use Rattle.codes.specs.declared.speeds.Code.{Code}
use Rattle.laws.specs.Books.{Emergencies}
use Rattle.rules.specs.Tracks.{Track, Mark}
use Rattle.trains.specs.Braking.{Numbers, Hears, Rolls}
use Rattle.driving.specs.Journeys.{Journey, last_position, class_behind, class_at, Differs, Moves}
use Rattle.driving.specs.Journeys.Arrives.{hears_code, hears_none}
use Rattle.driving.specs.Driving.{FirstDue}

module _ (track : Track) (mark : Mark) (E : Emergencies) (row : List Code) (before : Journey) (position : ℕ) (rolled : Numbers)
    (on : position ≡ min (before.position + 1) last_position) (rolls : Rolls E (class_at track before.position) before.train rolled) where
  -- where no code is due
  pub moves_unheard : ((i : ℕ) → Differs track mark row before.told position i → ⊥)
      → (paces : List ℕ) × Moves track mark E row before (record { position = position; told = before.told; train = rolled }) paces
  moves_unheard none = (
    rolled.pace ∷ [],
    record { position = on; rolled = rolled; rolls = rolls; heard = []; arrives = hears_none none refl refl; tells = refl },
  )

  -- where one is
  pub moves_heard : (code : Code) (heard : Numbers) → FirstDue track mark row position before.told code → Hears E code (class_behind track position) rolled heard
      → (paces : List ℕ) × Moves track mark E row before (record { position = position; told = code; train = heard }) paces
  moves_heard code heard due hears = (
    rolled.pace ∷ heard.pace ∷ [],
    record {
      position = on;
      rolled = rolled;
      rolls = rolls;
      heard = heard.pace ∷ [];
      arrives = hears_code due.place due.differs due.first due.tells (subst (λ told. Hears E told (class_behind track position) rolled heard) due.tells hears);
      tells = refl;
    },
  )
