-- Where the intervals of a line end, and where the stop ground begins. Assumes nothing.
use Rattle.std.proofs.Common.{◌≡◌, ℕ, zero, suc, ◌+◌, ◌<◌, ◌≤◌, length, refl, subst, zero-le, arith}
use native.Mathlib.Decide.{dec_lt, ℕ_discrete}
use Rattle.std.proofs.ByRecursion.{All-get_or}
use Rattle.codes.specs.declared.speeds.Code.TheVariants.{Stop, Go}
use Rattle.laws.specs.Books.{Emergencies, Services, Distances}
use Rattle.rules.specs.Tracks.{Track, Mark, Stands, begin_of, end_of, length_of}
use Rattle.rules.specs.Rules.{class_from, Stops, InGround}
use Rattle.rules.proofs.Moved.{moved_none, moved_more, moved_rises}
use Rattle.driving.specs.Safety.{Drawn}
use Rattle.driving.proofs.Decided.{dec_stops}

module _ (track : Track) where
  pub end_more : (j : ℕ) → end_of track (suc j) ≡ end_of track j + length_of track (suc j)
  end_more j = moved_more track.start track.lengths j

  pub end_first : end_of track 0 ≡ track.start
  end_first = moved_none track.start track.lengths

  pub end_rises : (i j : ℕ) → i ≤ j → end_of track i ≤ end_of track j
  end_rises i j h = moved_rises track.start track.lengths i j h

  pub begin_end : (j : ℕ) → begin_of track j ≤ end_of track j
  begin_end zero = omega (arith, end_first)
  begin_end (suc j) = end_rises j (suc j) (omega arith)

module _ (track : Track) (mark : Mark) (drawn : Drawn track mark) where
  pub end_strict : (i j : ℕ) → i < j → j ≤ length track.lengths → end_of track i < end_of track j
  end_strict i j h within =
      let least = All-get_or (λ metres. 1 ≤ metres) track.lengths i 0 (omega arith) drawn.lengths in
      omega (arith, end_more track i, end_rises track (suc i) j h)

  pub end_start : (j : ℕ) → 1000 ≤ end_of track j
  end_start j = omega (arith, end_first track, drawn.start_least, end_rises track 0 j zero-le)

  begins : (h j : ℕ) → begin_of track h < mark.position → j < h → end_of track j < mark.position
  begins zero j begin before = absurd (omega arith)
  begins (suc h) j begin before = omega (arith, end_rises track j h (omega arith))

  -- the mark's interval, and so each before it, begins before the mark
  pub end_position : (j : ℕ) → j < mark.interval → end_of track j < mark.position
  end_position j before = begins mark.interval j drawn.stands.begins before

-- the stop ground begins with interval g + 1
pub record Ground (track : Track) (mark : Mark) (E : Emergencies) (D : Services) (g : ℕ) : Type 0 where
  pub inside : InGround track mark E D (suc g)
  pub first : (i : ℕ) → InGround track mark E D i → g < i

module _ (track : Track) (mark : Mark) (E : Emergencies) (D : Services) where
  longer : (j : ℕ) → 1 ≤ j → Stops track mark E D j → InGround track mark E D (suc j) → InGround track mark E D j
  longer j some stops ground = record {
    first = some;
    last = omega (arith, ground.last);
    stops = λ i low high. elim (ℕ_discrete j i) [
      | yes same ↦ subst (Stops track mark E D) same stops
      | no other ↦ ground.stops i (omega arith) high
    ];
  }

  ground_from : (n : ℕ) → InGround track mark E D (suc n) → (g : ℕ) × Ground track mark E D g
  ground_from zero ground = (0, record { inside = ground; first = λ i other. other.first })
  ground_from (suc n) ground =
      elim (dec_stops track mark E D (suc n)) [
        | yes stops ↦ ground_from n (longer (suc n) (omega arith) stops ground)
        | no moves ↦ (
          suc n,
          record {
            inside = ground;
            first = λ i other. elim (dec_lt (suc n) i) [
              | yes behind ↦ behind
              | no before ↦ absurd (moves (other.stops (suc n) (omega arith) (omega (arith, ground.last))))
            ];
          },
        )
      ]

  module _ (distances : Distances E D) (stands : Stands track mark) where
    -- no speed stops before the mark from where its interval ends
    last_stops : Stops track mark E D mark.interval
    last_stops Stop fits = refl
    last_stops (Go v) (touching, ahead, service, stopping) =
        absurd (omega (arith, (distances.service (class_from track mark E D mark.interval mark.position) v).0, stands.ends, service))

    last_ground : InGround track mark E D mark.interval
    last_ground = record {
      first = stands.first;
      last = omega arith;
      stops = λ i low high. let same : mark.interval ≡ i = omega arith in subst (Stops track mark E D) same last_stops;
    }

    pub some_ground : (g : ℕ) × Ground track mark E D g
    some_ground = from_last mark.interval last_ground
      where
        from_last : (h : ℕ) → InGround track mark E D h → (g : ℕ) × Ground track mark E D g
        from_last zero ground = absurd (omega (arith, ground.first))
        from_last (suc n) ground = ground_from n ground
