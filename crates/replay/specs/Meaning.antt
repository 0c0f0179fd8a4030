-- What the calls, the answers and the sheet of a replay mean. Assumes nothing.
--     order_of numbers action     a call's order, with trains by their five numbers
--     call_of numbers call        a call, with what it is lent
--     outcome_of numbers answer   an answer: each refusal by its number and values
--     five_tables ..              the caller's tables
--     open_sheet s tables, ..     a sheet in one of its states, with the caller's tables
--     sheet_of numbers s tables   a sheet in any state, with them
--     By book sheet               a sheet that keeps a book keeps this one
--     Performed E D before call answer after    one call, answered as runs have it, whatever paces the trains told
use Rattle.std.specs.Prelude.{◌≡◌, ℕ, List, vec_items}
use Rattle.codes.specs.Refusals.{Told, gives, refuses, notice}
use Rattle.codes.specs.declared.gradients.Class.{Class}
use Rattle.codes.specs.declared.speeds.Speed.{Speed}
use Rattle.ground.specs.declared.entries.Entry.{Entry}
use Rattle.rules.specs.declared.lines.Interval.{Interval}
use Rattle.rules.specs.declared.lines.StopMark.{StopMark}
use Rattle.laws.specs.Books.{Emergencies, Services}
use Rattle.trains.specs.Braking.{Numbers}
use Rattle.sheet.specs.Sheets.{Sheet, Tables, drawing, closed, passed, running}
use Rattle.sheet.specs.States.{open_heading, closed_heading, passed_heading, running_heading, pass_of, book_of, passed_of, journey_of}
use Rattle.sheet.specs.declared.open.OpenSheet.{OpenSheet}
use Rattle.sheet.specs.declared.closed.ClosedSheet.{ClosedSheet}
use Rattle.sheet.specs.declared.passed.PassedSheet.{PassedSheet}
use Rattle.sheet.specs.declared.running.RunningSheet.{RunningSheet}
use Rattle.runs.specs.Orders.{Lent, Order, Outcome, done, worked, at, left, refused, unworked, kept, not_taken}
use Rattle.runs.specs.Orders as runs
use Rattle.runs.specs.Orders.Order.{enter_interval, enter_gradient, enter_restriction, enter_mark, strike_gradient, strike_restriction, close, reopen, work_out, submit, set_off, step, leave}
use Rattle.runs.specs.Runs.{Does}
use Rattle.replay.specs.declared.calls.Lending.{Lending}
use Rattle.replay.specs.declared.calls.Action.{Action}
use Rattle.replay.specs.declared.calls.Action.TheVariants as action
use Rattle.replay.specs.declared.calls.Call.{Call}
use Rattle.replay.specs.declared.answers.Answer.{Answer}
use Rattle.replay.specs.declared.answers.Answer.TheVariants as answer
use Rattle.replay.specs.declared.any_sheet.AnySheet.{AnySheet}
use Rattle.replay.specs.declared.any_sheet.AnySheet.TheVariants.{Open, Closed, Passed, Running}

abbrev pub order_of : {T : Type 0} → (T → Numbers) → Action T → Order
order_of numbers (action.EnterInterval number length) = enter_interval number length
order_of numbers (action.EnterGradient from to faldtal) = enter_gradient from to faldtal
order_of numbers (action.EnterRestriction from to kmh) = enter_restriction from to kmh
order_of numbers (action.EnterMark number position danger) = enter_mark number position danger
order_of numbers (action.StrikeGradient place) = strike_gradient place
order_of numbers (action.StrikeRestriction place) = strike_restriction place
order_of numbers action.Close = close
order_of numbers action.Reopen = reopen
order_of numbers (action.WorkOut mark approach bytes) = work_out mark approach (vec_items bytes)
order_of numbers (action.Submit mark approach row) = submit mark approach (vec_items row)
order_of numbers (action.SetOff train) = set_off (numbers train)
order_of numbers action.Step = step
order_of numbers action.Leave = leave

abbrev pub lent_of : Lending → Lent
lent_of lent = record { intervals = lent.intervals; gradients = lent.gradients; restrictions = lent.restrictions; marks = lent.marks; row = lent.row }

abbrev pub call_of : {T : Type 0} → (T → Numbers) → Call T → runs.Call
call_of numbers call = record { lent = lent_of call.lent; order = order_of numbers call.action }

abbrev pub outcome_of : {T : Type 0} → (T → Numbers) → Answer T → Outcome
outcome_of numbers answer.Done = done
outcome_of numbers (answer.Worked row letter place) = worked (vec_items row) letter place
outcome_of numbers (answer.At report) = at report.position report.pace report.stands
outcome_of numbers (answer.Left train) = left (numbers train)
outcome_of numbers (answer.Refused why) = refused (notice why)
outcome_of numbers (answer.Unworked row why) = unworked (vec_items row) (notice why)
outcome_of numbers (answer.Kept train why) = kept (numbers train) (notice why)
outcome_of numbers answer.NotTaken = not_taken

-- what a call tells that is done or refused
abbrev pub outcome_told : {X : Type 0} → Told X → Outcome
outcome_told (gives x) = done
outcome_told (refuses n) = refused n

-- the caller's five tables
abbrev pub five_tables : List Interval → List (Entry Class) → List (Entry Speed) → List StopMark → List ℕ → Tables
five_tables intervals gradients restrictions marks row =
    record { intervals = intervals; gradients = gradients; restrictions = restrictions; marks = marks; row = row }

abbrev pub open_sheet : OpenSheet → Tables → Sheet
open_sheet s tables = record { heading = open_heading s; tables = tables; phase = drawing }

abbrev pub closed_sheet : ClosedSheet → Tables → Sheet
closed_sheet s tables = record { heading = closed_heading s; tables = tables; phase = closed }

abbrev pub passed_sheet : {B : Type 0} → PassedSheet B → Tables → Sheet
passed_sheet s tables = record { heading = passed_heading s; tables = tables; phase = passed (pass_of s) }

abbrev pub running_sheet : {B T : Type 0} → (T → Numbers) → RunningSheet B T → Tables → Sheet
running_sheet numbers s tables = record { heading = running_heading s; tables = tables; phase = running (pass_of (passed_of s)) (journey_of numbers s) }

abbrev pub sheet_of : {B T : Type 0} → (T → Numbers) → AnySheet B T → Tables → Sheet
sheet_of numbers (Open s) tables = open_sheet s tables
sheet_of numbers (Closed s) tables = closed_sheet s tables
sheet_of numbers (Passed s) tables = passed_sheet s tables
sheet_of numbers (Running s) tables = running_sheet numbers s tables

abbrev pub By : {B T : Type 0} → B → AnySheet B T → Type 0
By book (Open s) = Unit {0}
By book (Closed s) = Unit {0}
By book (Passed s) = book_of s ≡ book
By book (Running s) = book_of (passed_of s) ≡ book

pub record Performed (E : Emergencies) (D : Services) (before : Sheet) (call : runs.Call) (outcome : Outcome) (after : Sheet) : Type 0 where
  pub paces : List ℕ
  pub does : Does E D before call outcome paces after
