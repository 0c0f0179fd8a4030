-- Every call keeps a sheet and its history in step, and so every run from a blank sheet keeps the law. Assumes nothing.
use Rattle.std.proofs.Common.{◌≡◌, ℕ, Bool, true, false, List, [], Some, None, Option, sym, refl, subst, zero-le, arith}
use Rattle.std.proofs.lemmas.Bool.Decides.{nat_tests}
use Rattle.codes.specs.declared.refusals.Refusal.{Refusal}
use Rattle.laws.specs.Books.{Emergencies, Services, Distances, Laws}
use Rattle.sheet.specs.Sheets.{Tables, Sheet, blank}
use Rattle.sheet.specs.Faults.{start_fault}
use Rattle.runs.specs.Orders.{Lent, Order, Call, Outcome, done}
use Rattle.runs.specs.Orders.Order.{enter_interval, enter_gradient, enter_restriction, enter_mark, strike_gradient, strike_restriction, close, reopen, work_out, submit, set_off, step, leave}
use Rattle.runs.specs.Runs.{takes, fault, made, Changes, Performs, Ruled, Taken, Does, Run}
use Rattle.runs.specs.Runs.Run.{ended, then}
use Rattle.runs.specs.Law.{Sizes, WorkedRow, rows_after, sought_after, LawfulAnswers, LawOverRuns, sizes_of}
use Rattle.runs.proofs.Following.{Follows, Kept, history_on}
use Rattle.runs.proofs.Phases.{only_closed}
use Rattle.runs.proofs.Unchanged.{kept_not_taken, kept_refused}
use Rattle.runs.proofs.Entered.{done_interval, done_gradient, done_restriction, done_mark}
use Rattle.runs.proofs.Struck.{done_strike_gradient, done_strike_restriction, done_close, done_reopen}
use Rattle.runs.proofs.Passing.{kept_work_out, kept_submit}
use Rattle.runs.proofs.Driven.{kept_set_off, kept_step, kept_leave}

module _ (E : Emergencies) (D : Services) (distances : Distances E D) (laws : Laws E D) (sizes : Sizes) where
  module _ (rows : List WorkedRow) (sought : ℕ) (s : Sheet) (follows : Follows E D distances laws sizes rows sought s) where
    abbrev Keeps : Call → Outcome → Sheet → Type 0
    Keeps = Kept E D distances laws sizes rows sought s

    module _ (lent : Lent) (o : Outcome) (paces : List ℕ) (t : Sheet) where
      abbrev asked : Order → Call
      asked order = record { lent = lent; order = order }

      changed : (order : Order) → Changes s order o paces t → Keeps (asked order) done (made s.heading s.tables s.phase order) → Keeps (asked order) o t
      changed order changes now = subst (λ p. Keeps (asked order) p t) (sym changes.0) (subst (Keeps (asked order) done) (sym changes.2) now)

      -- where the state takes the order and no refusal is due
      kept_performed : (order : Order) → takes s.phase order ≡ true → fault s (asked order) ≡ None → Performs E D s order o paces t → Keeps (asked order) o t
      kept_performed (enter_interval number metres) taken none does =
          changed (enter_interval number metres) does (done_interval E D distances laws sizes rows sought s follows lent number metres taken none)
      kept_performed (enter_gradient from to faldtal) taken none does =
          changed (enter_gradient from to faldtal) does (done_gradient E D distances laws sizes rows sought s follows lent from to faldtal taken none)
      kept_performed (enter_restriction from to speed) taken none does =
          changed (enter_restriction from to speed) does (done_restriction E D distances laws sizes rows sought s follows lent from to speed taken none)
      kept_performed (enter_mark number position danger) taken none does =
          changed (enter_mark number position danger) does (done_mark E D distances laws sizes rows sought s follows lent number position danger taken none)
      kept_performed (strike_gradient place) taken none does =
          changed (strike_gradient place) does (done_strike_gradient E D distances laws sizes rows sought s follows lent place taken none)
      kept_performed (strike_restriction place) taken none does =
          changed (strike_restriction place) does (done_strike_restriction E D distances laws sizes rows sought s follows lent place taken none)
      kept_performed close taken none does = changed close does (done_close E D distances laws sizes rows sought s follows lent taken none)
      kept_performed reopen taken none does = changed reopen does (done_reopen E D distances laws sizes rows sought s follows lent taken none)
      kept_performed (work_out mark approach bytes) taken none does =
          let is-closed = only_closed (λ p. takes p (work_out mark approach bytes)) (λ p. refl) (λ p j. refl) refl s.phase taken in
          kept_work_out E D distances laws sizes rows sought s follows is-closed lent mark approach bytes t does.0 does.2
      kept_performed (submit mark approach row) taken none does =
          let is-closed = only_closed (λ p. takes p (submit mark approach row)) (λ p. refl) (λ p j. refl) refl s.phase taken in
          kept_submit E D distances laws sizes rows sought s follows is-closed lent mark approach row t none does.0
      kept_performed (set_off train) taken none does = kept_set_off E D distances laws sizes rows sought s lent s.phase train follows none o paces t does
      kept_performed step taken none does = kept_step E D distances laws sizes rows sought s lent s.phase follows o paces t does
      kept_performed leave taken none does = kept_leave E D distances laws sizes rows sought s lent s.phase follows o paces t does

      kept_ruled : (order : Order) → takes s.phase order ≡ true → (due : Option Refusal) → fault s (asked order) ≡ due → Ruled E D s order due o paces t → Keeps (asked order) o t
      kept_ruled order taken (Some w) is ruled = kept_refused E D distances laws sizes rows sought s follows (asked order) w is o t ruled.0 ruled.2
      kept_ruled order taken None is does = kept_performed order taken is does

      kept_taken : (order : Order) (test : Bool) → takes s.phase order ≡ test → Taken E D s (asked order) test o paces t → Keeps (asked order) o t
      kept_taken order true is does = kept_ruled order is (fault s (asked order)) refl does
      kept_taken order false is does = kept_not_taken E D distances laws sizes rows sought s follows (asked order) o t does.0 does.2

    -- a call is answered rightly, and leaves a sheet that follows the history after it
    pub kept : (call : Call) (o : Outcome) (paces : List ℕ) (t : Sheet) → Does E D s call o paces t → Keeps call o t
    kept call o paces t does = kept_taken call.lent o paces t call.order (takes s.phase call.order) refl does

  lawful_run : (rows : List WorkedRow) (sought : ℕ) {s t : Sheet} {calls : List Call} {outcomes : List Outcome} {paces : List ℕ}
      → Follows E D distances laws sizes rows sought s → Run E D s calls outcomes paces t → LawfulAnswers E D sizes (history_on s rows sought) calls outcomes
  lawful_run rows sought follows ended = tt
  lawful_run rows sought follows (then {sheet = s} {between = between} {call = call} {outcome = o} {calls = calls} {outcomes = outcomes} told does run whole) =
      let one = kept rows sought s follows call o told between does in
      let rows_then = rows_after rows call.order o in
      let sought-then = sought_after sought call.order o in (
        one.right,
        subst (λ d. LawfulAnswers E D sizes (record { drawing = d; worked_rows = rows_then; sought = sought-then }) calls outcomes) (sym one.drawing)
            (lawful_run rows_then sought-then one.follows run),
      )

-- a blank sheet follows the history of no calls
blank_follows : (E : Emergencies) (D : Services) (distances : Distances E D) (laws : Laws E D) (start : ℕ) (tables : Tables) → start_fault start ≡ None
    → Follows E D distances laws (sizes_of tables) [] 0 (blank start tables)
blank_follows E D distances laws start tables none = record {
  sound = record {
    start = grind (arith, nat_tests);
    intervals = record { size_kept = refl; within = zero-le };
    gradients = record { size_kept = refl; within = zero-le };
    restrictions = record { size_kept = refl; within = zero-le };
    marks = record { size_kept = refl; within = zero-le };
    row = refl;
    most = zero-le;
    fit_intervals = tt;
    fit_marks = tt;
  };
  inside = refl;
}

pub law_over_runs : (E : Emergencies) (D : Services) → Distances E D → Laws E D → LawOverRuns E D
law_over_runs E D distances laws start tables none calls outcomes paces after run =
    lawful_run E D distances laws (sizes_of tables) [] 0 (blank_follows E D distances laws start tables none) run
