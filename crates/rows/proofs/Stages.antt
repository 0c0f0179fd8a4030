-- A pass before its first interval, and one interval further. Assumes nothing.
use Rattle.std.proofs.Common.{◌≡◌, ℕ, suc, ◌+◌, ◌-◌, ◌≤◌, sym, ap, ◌∙◌, subst, arith}
use Rattle.codes.specs.declared.speeds.Code.{Code}
use Rattle.laws.specs.Books.{Emergencies, Services, Distances}
use Rattle.rules.specs.declared.lines.Line.{Line}
use Rattle.rules.specs.declared.places.Limits.{Limits}
use Rattle.rules.specs.Tracks.{begin_of, end_of}
use Rattle.rules.specs.Rules.{Stops}
use Rattle.rules.specs.Limits.{Caps}
use Rattle.rows.specs.declared.targets.Target.{Target}
use Rattle.rows.specs.declared.passing.Pass.{Pass}
use Rattle.rows.specs.Drawings.{lengths_of}
use Rattle.rows.specs.Targets.{track_of, mark_of, HeldBy}
use Rattle.rows.specs.Finding.{Reached}
use Rattle.rows.specs.Passing.{Stage, Joins, joined, kept}
use Rattle.rows.proofs.Stopped.{stops_from_only, only_from_stops}
use Rattle.rows.proofs.Grounds.{reached_none, reached_joined, reached_kept}
use Rattle.rows.proofs.Positions.{begin_back}
use Rattle.rows.proofs.Beside.{stands}

module _ (line : Line) (target : Target) (held : HeldBy line.start (lengths_of line.intervals.now) target.position target.held) (E : Emergencies) (D : Services) (distances : Distances E D) (pass : Pass) where
  -- at the mark's interval nothing was passed
  pub stage_none : pass.interval ≡ target.held.interval → pass.begin ≡ target.held.begin → pass.end ≡ target.held.end → pass.first ≡ target.held.interval + 1 → pass.ground ≡ target.held.end → Stage line target E D pass
  stage_none interval begin end first ground =
      let behind : suc target.held.interval ≡ pass.first = omega arith in
      record {
        within = omega arith;
        begins = begin ∙ held.begin_is ∙ sym (begin_back (track_of line) target.held.interval held.first) ∙ ap (begin_of (track_of line)) (sym interval);
        ends = end ∙ held.end_is ∙ ap (end_of (track_of line)) (sym interval);
        next_ends = λ less. absurd (omega arith);
        reached = subst (λ j. Reached (track_of line) (mark_of target) E D j pass.first) (sym interval)
            (subst (Reached (track_of line) (mark_of target) E D target.held.interval) behind (reached_none (track_of line) (mark_of target) E D distances (stands line target held)));
        ground = ground ∙ held.end_is ∙ ap (begin_of (track_of line)) behind;
      }

  module _ (stage : Stage line target E D pass) (behind : 1 ≤ pass.interval) (limits : Limits) (caps : Caps (track_of line) (mark_of target) E D pass.interval limits) where
    here : suc (pass.interval - 1) ≡ pass.interval
    here = omega arith

    so_far : Reached (track_of line) (mark_of target) E D (suc (pass.interval - 1)) pass.first
    so_far = subst (λ n. Reached (track_of line) (mark_of target) E D n pass.first) (sym here) stage.reached

    inside : suc (pass.interval - 1) ≤ target.held.interval
    inside = let within = stage.within in omega arith

    -- the stop ground once the interval was passed
    reached_back : (told : ℕ × ℕ) → Joins pass limits told → Reached (track_of line) (mark_of target) E D (pass.interval - 1) told.0
    reached_back told (joined e only) =
        subst (Reached (track_of line) (mark_of target) E D (pass.interval - 1)) here
        (reached_joined (track_of line) (mark_of target) E D distances (stands line target held) (pass.interval - 1) pass.first so_far inside (omega arith)
        (subst (Stops (track_of line) (mark_of target) E D) (sym here) (stops_from_only (track_of line) (mark_of target) E D pass.interval limits caps only)))
    reached_back told (kept apart) =
        reached_kept (track_of line) (mark_of target) E D distances (stands line target held) (pass.interval - 1) pass.first so_far inside
        (λ stops e. apart (only_from_stops (track_of line) (mark_of target) E D pass.interval limits caps (subst (Stops (track_of line) (mark_of target) E D) here stops)) (omega arith))

    ground_begins : (told : ℕ × ℕ) → Joins pass limits told → told.1 ≡ begin_of (track_of line) told.0
    ground_begins told (joined e only) = stage.begins
    ground_begins told (kept apart) = stage.ground

    pub stage_further : (told : ℕ × ℕ) → Joins pass limits told → (begin : ℕ) → begin ≡ begin_of (track_of line) (pass.interval - 1) → (code : Code) → Stage line target E D (record { interval = pass.interval - 1; begin = begin; end = pass.begin; next_end = pass.end; next = code; first = told.0; ground = told.1 })
    stage_further told joins begin begins code = record {
      within = let within = stage.within in omega arith;
      begins = begins;
      ends = stage.begins ∙ begin_back (track_of line) pass.interval behind;
      next_ends = λ more. stage.ends ∙ ap (end_of (track_of line)) (sym here);
      reached = reached_back told joins;
      ground = ground_begins told joins;
    }
