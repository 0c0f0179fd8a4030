-- A call over a sheet has one answer and leaves one sheet, by the paces told. Assumes nothing.
--     Once R      of two answers by R with paces at the front of one list, both answer and leave the same, and so do the paces for later
use Rattle.std.proofs.Common.{◌≡◌, ℕ, Bool, true, false, List, [], ◌++◌, Some, None, Option, sym, refl, ap, ◌∙◌}
use Rattle.std.proofs.lemmas.Bool.{both_ways}
use Rattle.codes.specs.declared.refusals.Refusal.{Refusal}
use Rattle.laws.specs.Books.{Emergencies, Services}
use Rattle.rows.specs.Drawings.{Drawing}
use Rattle.trains.specs.Braking.{Numbers}
use Rattle.driving.specs.Journeys.{Journey}
use Rattle.sheet.specs.Sheets.{Pass, Phase, drawing, closed, passed, running, Sheet, drawn, passed_row, in_phase}
use Rattle.runs.specs.Orders.{Order, Call, Outcome, refused, unworked}
use Rattle.runs.specs.Orders.Order.{enter_interval, enter_gradient, enter_restriction, enter_mark, strike_gradient, strike_restriction, close, reopen, work_out, submit, set_off, step, leave}
use Rattle.runs.specs.Runs.{takes, fault, track_on, WorksOut, works, works_not, Submits, passes, fails, told_of, Departs, Steps, stays, moves, Leaves, DepartsIn, StepsIn, LeavesIn, Performs, Ruled, Taken, Does}
use Rattle.rows.proofs.Verdicts.{not_failed_from_passed}
use Rattle.rows.proofs.Single.{passed_same, worked_same}
use Rattle.rows.proofs.SingleRefusals.{not_unworked_from_worked, unworked_same, failed_same}
use Rattle.runs.proofs.DeterminedTrains.{sets_off_single, moves_single}

abbrev pub Once : (Outcome → List ℕ → Sheet → Type 0) → Type 0
Once R = (o o' : Outcome) (told told' later later' : List ℕ) (t t' : Sheet) → R o told t → R o' told' t' → told ++ later ≡ told' ++ later'
    → (o ≡ o') × (t ≡ t') × (later ≡ later')

-- where no train tells a pace
quiet : (told told' later later' : List ℕ) → told ≡ [] → told' ≡ [] → told ++ later ≡ told' ++ later' → later ≡ later'
quiet told told' later later' none none' e = sym (ap (λ l. l ++ later) none) ∙ e ∙ ap (λ l. l ++ later') none'

quiet_once : (outcome : Outcome) (after : Sheet) → Once (λ o told t. (o ≡ outcome) × (told ≡ []) × (t ≡ after))
quiet_once outcome after o o' told told' later later' t t' (tells, none, is) (tells', none', is') e =
    (tells ∙ sym tells', is ∙ sym is', quiet told told' later later' none none' e)

-- what a phase does not take
never_once : Once (λ o told t. ⊥)
never_once o o' told told' later later' t t' one other e = absurd one

-- ---- the orders

module _ (E : Emergencies) (D : Services) (sheet : Sheet) where
  -- what is entered on the sheet
  abbrev entered : Drawing
  entered = drawn sheet.heading sheet.tables

  works_same : (mark approach : ℕ) (bytes : List ℕ) (o o' : Outcome) → WorksOut E D sheet mark approach bytes o → WorksOut E D sheet mark approach bytes o' → o ≡ o'
  works_same mark approach bytes _ _ (works {row} {letter} {place} one long) (works {row = row'} {letter = letter'} {place = place'} other long') =
      let (same_row, same-letter, same_place) = worked_same entered mark approach E D row row' letter letter' place place' one other in
      cc
  works_same mark approach bytes _ _ (works {row} {letter} {place} one long) (works_not {n} other) = absurd (not_unworked_from_worked entered mark approach E D row bytes letter place long one n other)
  works_same mark approach bytes _ _ (works_not {n} one) (works {row} {letter} {place} other long) = absurd (not_unworked_from_worked entered mark approach E D row bytes letter place long other n one)
  works_same mark approach bytes _ _ (works_not {n} one) (works_not {n = m} other) = ap (unworked bytes) (unworked_same entered mark approach bytes E D n m one other)

  works_once : (mark approach : ℕ) (bytes : List ℕ) → Once (Performs E D sheet (work_out mark approach bytes))
  works_once mark approach bytes o o' told told' later later' t t' (one, none, is) (other, none', is') e =
      (works_same mark approach bytes o o' one other, is ∙ sym is', quiet told told' later later' none none' e)

  submits_same : (mark approach : ℕ) (row : List ℕ) (o o' : Outcome) (t t' : Sheet) → Submits E D sheet mark approach row o t → Submits E D sheet mark approach row o' t'
      → (o ≡ o') × (t ≡ t')
  submits_same mark approach row _ _ t t' (passes one is) (passes other is') =
      let (target, speed) = passed_same entered mark approach E D row one other in
      (refl, cc)
  submits_same mark approach row _ _ t t' (passes one is) (fails {n} other is') = absurd (not_failed_from_passed entered mark approach E D row n one other)
  submits_same mark approach row _ _ t t' (fails {n} one is) (passes other is') = absurd (not_failed_from_passed entered mark approach E D row n other one)
  submits_same mark approach row _ _ t t' (fails {n} one is) (fails {n = m} other is') = (ap refused (failed_same entered mark approach row E D n m one other), is ∙ sym is')

  submits_once : (mark approach : ℕ) (row : List ℕ) → Once (Performs E D sheet (submit mark approach row))
  submits_once mark approach row o o' told told' later later' t t' (one, none) (other, none') e =
      let (tells, is) = submits_same mark approach row o o' t t' one other in
      (tells, is, quiet told told' later later' none none' e)

  departs_once : (pass : Pass) (train : Numbers) → Once (Departs E sheet pass train)
  departs_once pass train o o' told told' later later' t t' one other e =
      let (journey, rest) = sets_off_single (track_on sheet) pass.mark E (passed_row pass sheet.tables.row) train one.journey other.journey told told' later later' one.sets_off other.sets_off e in
      (one.tells ∙ ap told_of journey ∙ sym other.tells, one.runs ∙ ap (λ j. in_phase (running pass j) sheet) journey ∙ sym other.runs, rest)

  steps_once : (pass : Pass) (journey : Journey) → Once (Steps E sheet pass journey)
  steps_once pass journey o o' _ _ later later' t t' (stays still tells is) (stays still' tells' is') e = (tells ∙ sym tells', is ∙ sym is', e)
  steps_once pass journey o o' _ _ later later' t t' (stays still tells is) (moves next goes moved tells' is') e = absurd (both_ways _ goes still)
  steps_once pass journey o o' _ _ later later' t t' (moves next goes moved tells is) (stays still tells' is') e = absurd (both_ways _ goes still)
  steps_once pass journey o o' _ _ later later' t t' (moves next goes moved tells is) (moves next' goes' moved' tells' is') e =
      let (same, rest) = moves_single (track_on sheet) pass.mark E (passed_row pass sheet.tables.row) journey next next' _ _ later later' moved moved' e in
      (tells ∙ ap told_of same ∙ sym tells', is ∙ ap (λ j. in_phase (running pass j) sheet) same ∙ sym is', rest)

  leaves_once : (tells : Outcome) → Once (Leaves sheet tells)
  leaves_once tells o o' told told' later later' t t' one other e =
      quiet_once tells (in_phase closed sheet) o o' told told' later later' t t' (one.told, one.none, one.closes) (other.told, other.none, other.closes) e

  -- ---- by the phase, the refusal and the state

  departs_in_once : (phase : Phase) (train : Numbers) → Once (DepartsIn E D sheet phase train)
  departs_in_once drawing train = never_once
  departs_in_once closed train = never_once
  departs_in_once (passed pass) train = departs_once pass train
  departs_in_once (running pass journey) train = never_once

  steps_in_once : (phase : Phase) → Once (StepsIn E D sheet phase)
  steps_in_once drawing = never_once
  steps_in_once closed = never_once
  steps_in_once (passed pass) = never_once
  steps_in_once (running pass journey) = steps_once pass journey

  leaves_in_once : (phase : Phase) → Once (LeavesIn E D sheet phase)
  leaves_in_once drawing = never_once
  leaves_in_once closed = never_once
  leaves_in_once (passed pass) = leaves_once _
  leaves_in_once (running pass journey) = leaves_once _

  performs_once : (order : Order) → Once (Performs E D sheet order)
  performs_once (enter_interval number metres) = quiet_once _ _
  performs_once (enter_gradient from to faldtal) = quiet_once _ _
  performs_once (enter_restriction from to kmh) = quiet_once _ _
  performs_once (enter_mark number position danger) = quiet_once _ _
  performs_once (strike_gradient place) = quiet_once _ _
  performs_once (strike_restriction place) = quiet_once _ _
  performs_once close = quiet_once _ _
  performs_once reopen = quiet_once _ _
  performs_once (work_out mark approach bytes) = works_once mark approach bytes
  performs_once (submit mark approach row) = submits_once mark approach row
  performs_once (set_off train) = departs_in_once sheet.phase train
  performs_once step = steps_in_once sheet.phase
  performs_once leave = leaves_in_once sheet.phase

  ruled_once : (order : Order) (due : Option Refusal) → Once (Ruled E D sheet order due)
  ruled_once order (Some why) = quiet_once _ _
  ruled_once order None = performs_once order

  taken_once : (call : Call) (takes : Bool) → Once (Taken E D sheet call takes)
  taken_once call true = ruled_once call.order (fault sheet call)
  taken_once call false = quiet_once _ _

  pub does_once : (call : Call) → Once (Does E D sheet call)
  does_once call = taken_once call (takes sheet.phase call.order)
