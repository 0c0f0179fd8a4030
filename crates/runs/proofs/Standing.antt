-- A mark on a sheet stands on a line that trains can be safe on. Assumes nothing.
use Rattle.std.proofs.Common.{◌≡◌, ℕ, zero, suc, ◌-◌, ◌<◌, ◌≤◌, Bool, true, false, cond, eqb, ◌⊎◌, List, [], ◌∷◌, Some, Option, subst, inl, inr, ⊎_elim, arith}
use Rattle.std.specs.List.{AllByRecursion}
use Rattle.std.proofs.lemmas.List.{length-map}
use Rattle.std.proofs.ByRecursion.{All-map, All-weaker}
use Rattle.rules.specs.declared.lines.Interval.{Interval}
use Rattle.rules.specs.declared.lines.StopMark.{StopMark}
use Rattle.rules.specs.Tracks.{Track, moved_on, begin_of}
use Rattle.rows.specs.declared.targets.Target.{Target}
use Rattle.rows.specs.Drawings.{track_drawn}
use Rattle.rows.specs.Targets.{marked, LocatedAt, mark_of}
use Rattle.driving.specs.Safety.{Drawn}
use Rattle.entering.specs.Entering.{FitInterval, FitMark}
use Rattle.sheet.specs.Sheets.{Heading, Tables, drawn}
use Rattle.sheet.specs.Faults.{row_table_size}
use Rattle.runs.specs.Law.{Sizes}
use Rattle.runs.proofs.Following.{Sound}
use Rattle.runs.proofs.Tables.{in_use}

one_of_two : (test : Bool) (x mark : StopMark) (later : Option StopMark) → cond test (Some x) later ≡ Some mark → (x ≡ mark) ⊎ (later ≡ Some mark)
one_of_two true x mark later found = inl cc
one_of_two false x mark later found = inr found

-- the mark with a number is one of the marks
marked_fit : (marks : List StopMark) (number : ℕ) (mark : StopMark) → marked marks number ≡ Some mark → AllByRecursion FitMark marks → FitMark mark
marked_fit [] number mark found fit = absurd (let z : ◌≡◌ {A = ℕ} 0 1 = cc in omega arith)
marked_fit (x ∷ marks) number mark found fit =
    ⊎_elim (λ same. subst FitMark same fit.0) (λ later. marked_fit marks number mark later fit.1) (one_of_two (eqb x.number number) x mark (marked marks number) found)

begin_before : (track : Track) (h position : ℕ) → 1 ≤ h → moved_on track.start track.lengths (h - 1) < position → begin_of track h < position
begin_before track zero position least before = absurd (omega arith)
begin_before track (suc h) position least before =
    subst (λ n. moved_on track.start track.lengths n < position) (let back : suc h - 1 ≡ h = omega arith in back) before

module _ (sizes : Sizes) (heading : Heading) (tables : Tables) (sound : Sound sizes heading tables) (number : ℕ) (target : Target)
    (located : LocatedAt (drawn heading tables) number target) where
  -- a line on a sheet is one that trains can be safe on
  pub drawn_well : Drawn (track_drawn (drawn heading tables)) (mark_of target)
  drawn_well =
      let fit = marked_fit (drawn heading tables).marks number located.mark located.marks sound.fit_marks in
      let held = located.held in
      record {
        start_least = sound.start;
        lengths = All-map (λ metres. 1 ≤ metres) (λ (interval : Interval). interval.length) (drawn heading tables).intervals
            (All-weaker FitInterval (λ interval. 1 ≤ interval.length) (λ interval fits. fits.0) (drawn heading tables).intervals sound.fit_intervals);
        stands = record {
          first = held.first;
          last = held.last;
          begins = begin_before (track_drawn (drawn heading tables)) target.held.interval target.position held.first (omega (arith, held.begin_is, held.begins));
          ends = omega (arith, held.end_is, held.ends);
        };
        danger_least = omega (arith, located.position, located.danger, fit.not_before);
        danger_most = omega (arith, located.position, located.danger, fit.within, fit.near);
      }

  -- its interval is one of at most 64
  pub interval_most : target.held.interval ≤ row_table_size
  interval_most =
      omega (
        arith,
        located.held.last,
        length-map (drawn heading tables).intervals (λ (interval : Interval). interval.length),
        in_use tables.intervals sizes.intervals heading.intervals sound.intervals,
        sound.most,
      )
