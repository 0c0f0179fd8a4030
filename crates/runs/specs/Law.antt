-- The law over every list of calls, in calls and answers alone. Assumes nothing.
--     Sizes                      how many records each of the caller's tables has room for
--     History                    what the calls and answers so far come to: what is entered, the rows worked out since the last
--                                reopening, and the mark of the row that passed last
--     entered drawing order      what is entered once an order was accepted
--     history_after h call o     the history once a call was answered
--     Enough sizes h lent        no table that a submit is lent is under its count, and its row table has 64 bytes
--     Short h position           the position is not above the danger point of the mark of the row that passed last
--     Slow h position pace       the pace is at most the speed of every restriction entered that binds a head at the position
--     Right E D sizes h call o   the answer o to the call is right, after this history
--     LawfulAnswers ..          every answer of the list is right
--     Law E D sizes start calls outcomes     so it is from a blank sheet on
use Rattle.std.specs.Prelude.{◌≡◌, ℕ, ◌≤◌, min, cond, ◌⊎◌, List, [], ◌∷◌, ◌++◌, length, Some, None}
use Rattle.std.specs.List.{remove, ContainsAt, AllByRecursion}
use Rattle.codes.specs.Speeds.{kmh}
use Rattle.laws.specs.Books.{Emergencies, Services}
use Rattle.rules.specs.declared.lines.StopMark.{StopMark}
use Rattle.rows.specs.Drawings.{Drawing}
use Rattle.rows.specs.Targets.{marked}
use Rattle.rows.specs.WorkingOut.{Worked, Unworked}
use Rattle.driving.specs.Safety.{Binds}
use Rattle.entering.specs.Entering.{interval_of, gradient_of, restriction_of}
use Rattle.entering.specs.Entering as written
use Rattle.sheet.specs.Sheets.{Sheet, Tables, blank}
use Rattle.sheet.specs.Faults.{row_table_size, start_fault}
use Rattle.runs.specs.Runs.{Run}
use Rattle.runs.specs.Orders.{Lent, Order, Call, Outcome, accepted}
use Rattle.runs.specs.Orders.Order.{enter_interval, enter_gradient, enter_restriction, enter_mark, strike_gradient, strike_restriction, close, reopen, work_out, submit, set_off, step, leave}
use Rattle.runs.specs.Orders.Outcome.{done, worked, at, left, refused, unworked, kept, not_taken}

pub record Sizes : Type 0 where
  pub intervals : ℕ
  pub gradients : ℕ
  pub restrictions : ℕ
  pub marks : ℕ
  pub row : ℕ

-- a row that was worked out, for a mark's number and the byte of an approach code
pub record WorkedRow : Type 0 where
  pub mark : ℕ
  pub approach : ℕ
  pub row : List ℕ

pub record History : Type 0 where
  pub drawing : Drawing
  pub worked_rows : List WorkedRow
  -- the number of the mark of the row that passed last
  pub sought : ℕ

-- ---- the history
abbrev pub entered : Drawing → Order → Drawing
entered d (enter_interval number metres) =
    record { start = d.start; intervals = d.intervals ++ interval_of number metres ∷ []; gradients = d.gradients; restrictions = d.restrictions; marks = d.marks }
entered d (enter_gradient from to faldtal) =
    record { start = d.start; intervals = d.intervals; gradients = d.gradients ++ gradient_of from to faldtal ∷ []; restrictions = d.restrictions; marks = d.marks }
entered d (enter_restriction from to speed) =
    record { start = d.start; intervals = d.intervals; gradients = d.gradients; restrictions = d.restrictions ++ restriction_of from to speed ∷ []; marks = d.marks }
entered d (enter_mark number position danger) =
    record { start = d.start; intervals = d.intervals; gradients = d.gradients; restrictions = d.restrictions; marks = d.marks ++ written.mark_of number position danger ∷ [] }
entered d (strike_gradient place) =
    record { start = d.start; intervals = d.intervals; gradients = remove d.gradients place; restrictions = d.restrictions; marks = d.marks }
entered d (strike_restriction place) =
    record { start = d.start; intervals = d.intervals; gradients = d.gradients; restrictions = remove d.restrictions place; marks = d.marks }
entered d close = d
entered d reopen = d
entered d (work_out mark approach bytes) = d
entered d (submit mark approach row) = d
entered d (set_off train) = d
entered d step = d
entered d leave = d

-- a reopening forgets the rows worked out; a work-out that was accepted adds its own
abbrev pub rows_after : List WorkedRow → Order → Outcome → List WorkedRow
rows_after rows (enter_interval number metres) o = rows
rows_after rows (enter_gradient from to faldtal) o = rows
rows_after rows (enter_restriction from to speed) o = rows
rows_after rows (enter_mark number position danger) o = rows
rows_after rows (strike_gradient place) o = rows
rows_after rows (strike_restriction place) o = rows
rows_after rows close o = rows
rows_after rows reopen o = cond (accepted o) [] rows
rows_after rows (work_out mark approach bytes) o = elim o [
  | done ↦ rows
  | worked row letter place ↦ record { mark = mark; approach = approach; row = row } ∷ rows
  | at p v b ↦ rows
  | left t ↦ rows
  | refused n ↦ rows
  | unworked b n ↦ rows
  | kept t n ↦ rows
  | not_taken ↦ rows
]
rows_after rows (submit mark approach row) o = rows
rows_after rows (set_off train) o = rows
rows_after rows step o = rows
rows_after rows leave o = rows

abbrev pub sought_after : ℕ → Order → Outcome → ℕ
sought_after n (enter_interval number metres) o = n
sought_after n (enter_gradient from to faldtal) o = n
sought_after n (enter_restriction from to speed) o = n
sought_after n (enter_mark number position danger) o = n
sought_after n (strike_gradient place) o = n
sought_after n (strike_restriction place) o = n
sought_after n close o = n
sought_after n reopen o = n
sought_after n (work_out mark approach bytes) o = n
sought_after n (submit mark approach row) o = cond (accepted o) mark n
sought_after n (set_off train) o = n
sought_after n step o = n
sought_after n leave o = n

abbrev pub history_after : History → Call → Outcome → History
history_after h call o = record {
  drawing = cond (accepted o) (entered h.drawing call.order) h.drawing;
  worked_rows = rows_after h.worked_rows call.order o;
  sought = sought_after h.sought call.order o;
}

-- ---- what is right
pub record Enough (sizes : Sizes) (drawing : Drawing) (lent : Lent) : Type 0 where
  pub intervals : length drawing.intervals ≤ min lent.intervals sizes.intervals
  pub gradients : length drawing.gradients ≤ min lent.gradients sizes.gradients
  pub restrictions : length drawing.restrictions ≤ min lent.restrictions sizes.restrictions
  pub marks : length drawing.marks ≤ min lent.marks sizes.marks
  pub row : row_table_size ≤ min lent.row sizes.row

pub record Short (h : History) (position : ℕ) : Type 0 where
  pub mark : StopMark
  pub marks : marked h.drawing.marks h.sought ≡ Some mark
  pub short : position ≤ mark.danger

abbrev pub Slow : History → ℕ → ℕ → Type 0
Slow h position pace = AllByRecursion (λ x. Binds x position → pace ≤ kmh x.value) h.drawing.restrictions

module _ (E : Emergencies) (D : Services) (sizes : Sizes) where
  -- the row is lawful and none higher is, by the sheet and the book of this work-out, and it is written over all the bytes; 13 comes where
  -- no row is lawful
  abbrev pub RightWork : Drawing → ℕ → ℕ → List ℕ → Outcome → Type 0
  RightWork drawing mark approach bytes o = elim o [
    | done ↦ ⊥
    | worked row letter place ↦ Worked drawing mark approach E D row letter place × (length row ≡ length bytes)
    | at p v b ↦ ⊥
    | left t ↦ ⊥
    | refused n ↦ ⊥
    | unworked back n ↦ n ≡ (13, []) → Unworked drawing mark approach E D back (13, [])
    | kept t n ↦ ⊥
    | not_taken ↦ Unit {0}
  ]

  -- a row worked out since the last reopening, for this mark and approach code, passes
  abbrev pub RightSubmit : History → Lent → ℕ → ℕ → List ℕ → Outcome → Type 0
  RightSubmit h lent mark approach row o =
      ContainsAt h.worked_rows (record { mark = mark; approach = approach; row = row }) → Enough sizes h.drawing lent → (o ≡ done) ⊎ (o ≡ not_taken)

  -- the head is not above the danger point, and the pace is at most the speed of every restriction that binds the head
  abbrev pub RightSetOff : History → Outcome → Type 0
  RightSetOff h o = elim o [
    | done ↦ ⊥
    | worked row letter place ↦ ⊥
    | at position pace stands ↦ Short h position × Slow h position pace
    | left t ↦ ⊥
    | refused n ↦ ⊥
    | unworked bytes n ↦ ⊥
    | kept t n ↦ Unit {0}
    | not_taken ↦ Unit {0}
  ]

  -- nor after a step
  abbrev pub RightStep : History → Outcome → Type 0
  RightStep h o = elim o [
    | done ↦ ⊥
    | worked row letter place ↦ ⊥
    | at position pace stands ↦ Short h position × Slow h position pace
    | left t ↦ ⊥
    | refused n ↦ Unit {0}
    | unworked bytes n ↦ ⊥
    | kept t n ↦ ⊥
    | not_taken ↦ Unit {0}
  ]

  abbrev pub Right : History → Call → Outcome → Type 0
  Right h call o = elim call.order [
    | enter_interval number metres ↦ Unit {0}
    | enter_gradient from to faldtal ↦ Unit {0}
    | enter_restriction from to speed ↦ Unit {0}
    | enter_mark number position danger ↦ Unit {0}
    | strike_gradient place ↦ Unit {0}
    | strike_restriction place ↦ Unit {0}
    | close ↦ Unit {0}
    | reopen ↦ Unit {0}
    | work_out mark approach bytes ↦ RightWork h.drawing mark approach bytes o
    | submit mark approach row ↦ RightSubmit h call.lent mark approach row o
    | set_off train ↦ RightSetOff h o
    | step ↦ RightStep h o
    | leave ↦ Unit {0}
  ]

  abbrev pub LawfulAnswers : History → List Call → List Outcome → Type 0
  LawfulAnswers h [] [] = Unit {0}
  LawfulAnswers h [] (o ∷ outcomes) = ⊥
  LawfulAnswers h (call ∷ calls) [] = ⊥
  LawfulAnswers h (call ∷ calls) (o ∷ outcomes) = Right h call o × LawfulAnswers (history_after h call o) calls outcomes

-- a blank sheet: a start, and nothing entered
abbrev pub blank_history : ℕ → History
blank_history start = record { drawing = record { start = start; intervals = []; gradients = []; restrictions = []; marks = [] }; worked_rows = []; sought = 0 }

abbrev pub Law : Emergencies → Services → Sizes → ℕ → List Call → List Outcome → Type 0
Law E D sizes start calls outcomes = LawfulAnswers E D sizes (blank_history start) calls outcomes

abbrev pub sizes_of : Tables → Sizes
sizes_of tables = record {
  intervals = length tables.intervals;
  gradients = length tables.gradients;
  restrictions = length tables.restrictions;
  marks = length tables.marks;
  row = length tables.row;
}

-- every run from a blank sheet keeps the law
abbrev pub LawOverRuns : Emergencies → Services → Type 0
LawOverRuns E D = (start : ℕ) (tables : Tables) → start_fault start ≡ None
    → (calls : List Call) (outcomes : List Outcome) (paces : List ℕ) (after : Sheet) → Run E D (blank start tables) calls outcomes paces after
    → Law E D (sizes_of tables) start calls outcomes
