-- What each call answers and leaves, and runs of calls. Assumes nothing.
--     takes phase order      whether a sheet in this phase takes the order
--     fault sheet call       the first refusal that is due to a call before its own work begins, if any is
--     made sheet order       what an order that changes only what is entered, or the phase, makes of a sheet
--     Performs E D sheet order outcome paces after    the order was taken and no such refusal was due: it answered outcome and left after
--     Does E D sheet call outcome paces after         a call over the sheet answered outcome and left after
--     Run E D sheet calls outcomes paces after        the calls, one after the other
--     Paces are those that trains tell after each hearing and each rolling, in order.
use Rattle.std.specs.Prelude.{◌≡◌, ℕ, Bool, true, false, List, [], ◌∷◌, ◌++◌, length, Some, None, Option, slice_set}
use Rattle.codes.specs.declared.refusals.Refusal.{Refusal}
use Rattle.codes.specs.Refusals.{notice}
use Rattle.ground.specs.Tables.{closed_up}
use Rattle.laws.specs.Books.{Emergencies, Services}
use Rattle.rules.specs.Tracks.{Track}
use Rattle.rows.specs.Drawings.{track_drawn}
use Rattle.rows.specs.Targets.{mark_of}
use Rattle.rows.specs.WorkingOut.{Worked, Unworked}
use Rattle.rows.specs.Examining.{Passed, Failed}
use Rattle.rows.specs.declared.letters.StopLetter.{StopLetter}
use Rattle.trains.specs.Braking.{Numbers}
use Rattle.driving.specs.Journeys.{Journey, stands, SetsOff, Moves}
use Rattle.entering.specs.Entering.{interval_of, gradient_of, restriction_of, interval_fault, gradient_fault, restriction_fault, mark_fault}
use Rattle.entering.specs.Entering as entered
use Rattle.sheet.specs.Sheets.{Heading, Tables, Pass, Phase, drawing, closed, passed, running, Sheet, drawn, passed_row, in_phase}
use Rattle.sheet.specs.Changes.{more_intervals, more_gradients, more_restrictions, more_marks, fewer_gradients, fewer_restrictions, with_intervals, with_gradients, with_restrictions, with_marks, with_row, row_written}
use Rattle.sheet.specs.Faults.{strike_fault, close_fault, lent_fault, submit_fault, set_off_fault, step_fault}
use Rattle.runs.specs.Orders.{lent_tables, Order, Call, Outcome, done, worked, at, left, refused, unworked, not_taken, refusing}
use Rattle.runs.specs.Orders.Order.{enter_interval, enter_gradient, enter_restriction, enter_mark, strike_gradient, strike_restriction, close, reopen, work_out, submit, set_off, step, leave}

-- open takes enter, strike and close; closed work out, submit and reopen; passed set off; running step; the last two take leave
abbrev pub takes : Phase → Order → Bool
takes drawing o = elim o [
  | enter_interval number metres ↦ true
  | enter_gradient from to f ↦ true
  | enter_restriction from to v ↦ true
  | enter_mark number position danger ↦ true
  | strike_gradient place ↦ true
  | strike_restriction place ↦ true
  | close ↦ true
  | reopen ↦ false
  | work_out mark approach bytes ↦ false
  | submit mark approach row ↦ false
  | set_off train ↦ false
  | step ↦ false
  | leave ↦ false
]
takes closed o = elim o [
  | enter_interval number metres ↦ false
  | enter_gradient from to f ↦ false
  | enter_restriction from to v ↦ false
  | enter_mark number position danger ↦ false
  | strike_gradient place ↦ false
  | strike_restriction place ↦ false
  | close ↦ false
  | reopen ↦ true
  | work_out mark approach bytes ↦ true
  | submit mark approach row ↦ true
  | set_off train ↦ false
  | step ↦ false
  | leave ↦ false
]
takes (passed pass) o = elim o [
  | enter_interval number metres ↦ false
  | enter_gradient from to f ↦ false
  | enter_restriction from to v ↦ false
  | enter_mark number position danger ↦ false
  | strike_gradient place ↦ false
  | strike_restriction place ↦ false
  | close ↦ false
  | reopen ↦ false
  | work_out mark approach bytes ↦ false
  | submit mark approach row ↦ false
  | set_off train ↦ true
  | step ↦ false
  | leave ↦ true
]
takes (running pass journey) o = elim o [
  | enter_interval number metres ↦ false
  | enter_gradient from to f ↦ false
  | enter_restriction from to v ↦ false
  | enter_mark number position danger ↦ false
  | strike_gradient place ↦ false
  | strike_restriction place ↦ false
  | close ↦ false
  | reopen ↦ false
  | work_out mark approach bytes ↦ false
  | submit mark approach row ↦ false
  | set_off train ↦ false
  | step ↦ true
  | leave ↦ true
]

-- by the pass in force
abbrev pub pass_fault : (Pass → Option Refusal) → Phase → Option Refusal
pass_fault f drawing = None
pass_fault f closed = None
pass_fault f (passed pass) = f pass
pass_fault f (running pass journey) = f pass

abbrev pub lent_order_fault : Heading → Tables → Phase → Order → Option Refusal
lent_order_fault heading lent phase (enter_interval number metres) = interval_fault lent.intervals heading.intervals number metres
lent_order_fault heading lent phase (enter_gradient from to faldtal) = gradient_fault lent.gradients heading.gradients from to faldtal
lent_order_fault heading lent phase (enter_restriction from to kmh) = restriction_fault lent.restrictions heading.restrictions from to kmh
lent_order_fault heading lent phase (enter_mark number position danger) = mark_fault lent.marks heading.marks number position danger
lent_order_fault heading lent phase (strike_gradient place) = strike_fault lent.gradients heading.gradients place
lent_order_fault heading lent phase (strike_restriction place) = strike_fault lent.restrictions heading.restrictions place
lent_order_fault heading lent phase close = close_fault heading lent.intervals lent.marks
lent_order_fault heading lent phase reopen = None
lent_order_fault heading lent phase (work_out mark approach bytes) = lent_fault heading lent
lent_order_fault heading lent phase (submit mark approach row) = submit_fault heading lent
lent_order_fault heading lent phase (set_off train) = pass_fault (λ pass. set_off_fault heading lent.gradients lent.row pass train) phase
lent_order_fault heading lent phase step = pass_fault (λ pass. step_fault heading lent.intervals lent.gradients lent.row pass) phase
lent_order_fault heading lent phase leave = None

abbrev pub fault : Sheet → Call → Option Refusal
fault sheet call = lent_order_fault sheet.heading (lent_tables call.lent sheet.tables) sheet.phase call.order

-- ---- what an order makes of what is entered
-- enter writes its record at the place that equals the count; strike copies the later ones down one
abbrev pub made : Heading → Tables → Phase → Order → Sheet
made h t phase (enter_interval number metres) =
    record { heading = more_intervals h; tables = with_intervals (slice_set t.intervals h.intervals (interval_of number metres)) t; phase = phase }
made h t phase (enter_gradient from to faldtal) =
    record { heading = more_gradients h; tables = with_gradients (slice_set t.gradients h.gradients (gradient_of from to faldtal)) t; phase = phase }
made h t phase (enter_restriction from to kmh) =
    record { heading = more_restrictions h; tables = with_restrictions (slice_set t.restrictions h.restrictions (restriction_of from to kmh)) t; phase = phase }
made h t phase (enter_mark number position danger) =
    record { heading = more_marks h; tables = with_marks (slice_set t.marks h.marks (entered.mark_of number position danger)) t; phase = phase }
made h t phase (strike_gradient place) =
    record { heading = fewer_gradients h; tables = with_gradients (closed_up t.gradients h.gradients place) t; phase = phase }
made h t phase (strike_restriction place) =
    record { heading = fewer_restrictions h; tables = with_restrictions (closed_up t.restrictions h.restrictions place) t; phase = phase }
made h t phase close = record { heading = h; tables = t; phase = closed }
made h t phase reopen = record { heading = h; tables = t; phase = drawing }
made h t phase (work_out mark approach bytes) = record { heading = h; tables = t; phase = phase }
made h t phase (submit mark approach row) = record { heading = h; tables = t; phase = phase }
made h t phase (set_off train) = record { heading = h; tables = t; phase = phase }
made h t phase step = record { heading = h; tables = t; phase = phase }
made h t phase leave = record { heading = h; tables = t; phase = closed }

abbrev pub Changes : Sheet → Order → Outcome → List ℕ → Sheet → Type 0
Changes sheet o outcome paces after = (outcome ≡ done) × (paces ≡ []) × (after ≡ made sheet.heading sheet.tables sheet.phase o)

-- ---- what the other orders do
abbrev pub track_on : Sheet → Track
track_on sheet = track_drawn (drawn sheet.heading sheet.tables)

-- the row was written over all the bytes, or it was refused
pub data WorksOut (E : Emergencies) (D : Services) (sheet : Sheet) (mark approach : ℕ) (bytes : List ℕ) : Outcome → Type 0 where
  works : {row : List ℕ} {letter : StopLetter} {place : ℕ} → Worked (drawn sheet.heading sheet.tables) mark approach E D row letter place
      → length row ≡ length bytes → WorksOut E D sheet mark approach bytes (worked row letter place)
  works_not : {n : ℕ × List ℕ} → Unworked (drawn sheet.heading sheet.tables) mark approach E D bytes n
      → WorksOut E D sheet mark approach bytes (unworked bytes n)

-- a pass copies the row into the first bytes of the row table, and fixes mark and approach code
abbrev pub with_passed_row : List ℕ → Tables → Tables
with_passed_row row t = with_row (row_written row t.row) t

pub data Submits (E : Emergencies) (D : Services) (sheet : Sheet) (mark approach : ℕ) (row : List ℕ) : Outcome → Sheet → Type 0 where
  passes : {after : Sheet} (pass : Passed (drawn sheet.heading sheet.tables) mark approach E D row)
      → after ≡ record { heading = sheet.heading; tables = with_passed_row row sheet.tables; phase = passed (record { mark = mark_of pass.target; approach = pass.speed }) }
      → Submits E D sheet mark approach row done after
  fails : {after : Sheet} {n : ℕ × List ℕ} → Failed (drawn sheet.heading sheet.tables) mark approach E D row n → after ≡ sheet
      → Submits E D sheet mark approach row (refused n) after

-- where the train is, how fast, and whether it stands
abbrev pub told_of : Journey → Outcome
told_of journey = at journey.position journey.train.pace (stands journey)

pub record Departs (E : Emergencies) (sheet : Sheet) (pass : Pass) (train : Numbers) (outcome : Outcome) (paces : List ℕ) (after : Sheet) : Type 0 where
  pub journey : Journey
  pub sets_off : SetsOff (track_on sheet) pass.mark E (passed_row pass sheet.tables.row) train journey paces
  pub tells : outcome ≡ told_of journey
  pub runs : after ≡ in_phase (running pass journey) sheet

pub data Steps (E : Emergencies) (sheet : Sheet) (pass : Pass) (journey : Journey) (outcome : Outcome) : List ℕ → Sheet → Type 0 where
  stays : {after : Sheet} → stands journey ≡ true → outcome ≡ told_of journey → after ≡ sheet → Steps E sheet pass journey outcome [] after
  moves : {after : Sheet} {paces : List ℕ} (next : Journey) → stands journey ≡ false
      → Moves (track_on sheet) pass.mark E (passed_row pass sheet.tables.row) journey next paces
      → outcome ≡ told_of next → after ≡ in_phase (running pass next) sheet → Steps E sheet pass journey outcome paces after

-- a running sheet hands the train back
pub record Leaves (sheet : Sheet) (tells : Outcome) (outcome : Outcome) (paces : List ℕ) (after : Sheet) : Type 0 where
  pub told : outcome ≡ tells
  pub none : paces ≡ []
  pub closes : after ≡ in_phase closed sheet

-- ---- the orders, by the phase that takes them
module _ (E : Emergencies) (D : Services) (sheet : Sheet) where
  abbrev pub DepartsIn : Phase → Numbers → Outcome → List ℕ → Sheet → Type 0
  DepartsIn drawing train outcome paces after = ⊥
  DepartsIn closed train outcome paces after = ⊥
  DepartsIn (passed pass) train outcome paces after = Departs E sheet pass train outcome paces after
  DepartsIn (running pass journey) train outcome paces after = ⊥

  abbrev pub StepsIn : Phase → Outcome → List ℕ → Sheet → Type 0
  StepsIn drawing outcome paces after = ⊥
  StepsIn closed outcome paces after = ⊥
  StepsIn (passed pass) outcome paces after = ⊥
  StepsIn (running pass journey) outcome paces after = Steps E sheet pass journey outcome paces after

  abbrev pub LeavesIn : Phase → Outcome → List ℕ → Sheet → Type 0
  LeavesIn drawing outcome paces after = ⊥
  LeavesIn closed outcome paces after = ⊥
  LeavesIn (passed pass) outcome paces after = Leaves sheet done outcome paces after
  LeavesIn (running pass journey) outcome paces after = Leaves sheet (left journey.train) outcome paces after

  abbrev pub Performs : Order → Outcome → List ℕ → Sheet → Type 0
  Performs (enter_interval number metres) outcome paces after = Changes sheet (enter_interval number metres) outcome paces after
  Performs (enter_gradient from to faldtal) outcome paces after = Changes sheet (enter_gradient from to faldtal) outcome paces after
  Performs (enter_restriction from to kmh) outcome paces after = Changes sheet (enter_restriction from to kmh) outcome paces after
  Performs (enter_mark number position danger) outcome paces after = Changes sheet (enter_mark number position danger) outcome paces after
  Performs (strike_gradient place) outcome paces after = Changes sheet (strike_gradient place) outcome paces after
  Performs (strike_restriction place) outcome paces after = Changes sheet (strike_restriction place) outcome paces after
  Performs close outcome paces after = Changes sheet close outcome paces after
  Performs reopen outcome paces after = Changes sheet reopen outcome paces after
  Performs (work_out mark approach bytes) outcome paces after = WorksOut E D sheet mark approach bytes outcome × (paces ≡ []) × (after ≡ sheet)
  Performs (submit mark approach row) outcome paces after = Submits E D sheet mark approach row outcome after × (paces ≡ [])
  Performs (set_off train) outcome paces after = DepartsIn sheet.phase train outcome paces after
  Performs step outcome paces after = StepsIn sheet.phase outcome paces after
  Performs leave outcome paces after = LeavesIn sheet.phase outcome paces after

  -- a refusal leaves all as it was
  abbrev pub Ruled : Order → Option Refusal → Outcome → List ℕ → Sheet → Type 0
  Ruled o (Some w) outcome paces after = (outcome ≡ refusing o (notice w)) × (paces ≡ []) × (after ≡ sheet)
  Ruled o None outcome paces after = Performs o outcome paces after

  -- a call that the state does not take is told so, and changes nothing
  abbrev pub Taken : Call → Bool → Outcome → List ℕ → Sheet → Type 0
  Taken call true outcome paces after = Ruled call.order (fault sheet call) outcome paces after
  Taken call false outcome paces after = (outcome ≡ not_taken) × (paces ≡ []) × (after ≡ sheet)

abbrev pub Does : Emergencies → Services → Sheet → Call → Outcome → List ℕ → Sheet → Type 0
Does E D sheet call outcome paces after = Taken E D sheet call (takes sheet.phase call.order) outcome paces after

pub data Run (E : Emergencies) (D : Services) : Sheet → List Call → List Outcome → List ℕ → Sheet → Type 0 where
  ended : {sheet : Sheet} → Run E D sheet [] [] [] sheet
  then : {sheet between after : Sheet} {call : Call} {outcome : Outcome} {calls : List Call} {outcomes : List Outcome} {later all : List ℕ}
      (told : List ℕ) → Does E D sheet call outcome told between → Run E D between calls outcomes later after → all ≡ told ++ later
      → Run E D sheet (call ∷ calls) (outcome ∷ outcomes) all after

-- what stands after a list follows from the sheet, the calls and the paces that trains tell
abbrev pub Determined : Emergencies → Services → Type 0
Determined E D = (sheet one other : Sheet) (calls : List Call) (outcomes others : List Outcome) (paces : List ℕ)
    → Run E D sheet calls outcomes paces one → Run E D sheet calls others paces other → (outcomes ≡ others) × (one ≡ other)
