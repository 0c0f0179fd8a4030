-- The nine calls over a sheet and what they answer, in plain numbers and lists. Assumes nothing.
--     Lent             how many records of each table a call is lent; past a table's end it is lent all of it
--     lent_tables      the parts of the tables that a call is lent
--     Order            one of the nine calls with its arguments: entering, striking, closing, reopening, working out, submitting,
--                      setting off, stepping and leaving
--     Call             an order with what it is lent
--     Outcome          what a call answers
--     accepted o       the call was done
--     refusing order n what the order answers when it is refused: the refusal's number and values, with the buffer or the train that it came with
use Rattle.std.specs.Prelude.{ℕ, Bool, true, false, List, take, ℤ}
use Rattle.rows.specs.declared.letters.StopLetter.{StopLetter}
use Rattle.trains.specs.Braking.{Numbers}
use Rattle.sheet.specs.Sheets.{Tables}

pub record Lent : Type 0 where
  pub intervals : ℕ
  pub gradients : ℕ
  pub restrictions : ℕ
  pub marks : ℕ
  pub row : ℕ

abbrev pub lent_tables : Lent → Tables → Tables
lent_tables lent tables = record {
  intervals = take lent.intervals tables.intervals;
  gradients = take lent.gradients tables.gradients;
  restrictions = take lent.restrictions tables.restrictions;
  marks = take lent.marks tables.marks;
  row = take lent.row tables.row;
}

pub data Order : Type 0 where
  -- number, length in metres
  enter_interval : ℕ → ℕ → Order
  -- from, to, faldtal
  enter_gradient : ℕ → ℕ → ℤ → Order
  -- from, to, km/h
  enter_restriction : ℕ → ℕ → ℕ → Order
  -- number, position, danger point
  enter_mark : ℕ → ℕ → ℕ → Order
  -- a place, counted from 0
  strike_gradient : ℕ → Order
  strike_restriction : ℕ → Order
  close : Order
  reopen : Order
  -- the mark's number, the approach code's byte, and the bytes to be written
  work_out : ℕ → ℕ → List ℕ → Order
  -- the mark's number, the approach code's byte, and the row
  submit : ℕ → ℕ → List ℕ → Order
  set_off : Numbers → Order
  step : Order
  leave : Order

pub record Call : Type 0 where
  pub lent : Lent
  pub order : Order

pub data Outcome : Type 0 where
  done : Outcome
  -- the row written, the stop letter and the place of the first interval of the stop ground
  worked : List ℕ → StopLetter → ℕ → Outcome
  -- position, pace, and whether the train stands
  at : ℕ → ℕ → Bool → Outcome
  -- the train that is handed back
  left : Numbers → Outcome
  -- a refusal by its number and values
  refused : ℕ × List ℕ → Outcome
  -- a work-out that was refused, with its bytes
  unworked : List ℕ → ℕ × List ℕ → Outcome
  -- a train that was not set off, and why
  kept : Numbers → ℕ × List ℕ → Outcome
  -- the sheet's state does not take the call
  not_taken : Outcome

abbrev pub accepted : Outcome → Bool
accepted done = true
accepted (worked row letter place) = true
accepted (at position pace stands) = true
accepted (left train) = true
accepted (refused n) = false
accepted (unworked row n) = false
accepted (kept train n) = false
accepted not_taken = false

abbrev pub refusing : Order → ℕ × List ℕ → Outcome
refusing (enter_interval number metres) n = refused n
refusing (enter_gradient from to faldtal) n = refused n
refusing (enter_restriction from to kmh) n = refused n
refusing (enter_mark number position danger) n = refused n
refusing (strike_gradient place) n = refused n
refusing (strike_restriction place) n = refused n
refusing close n = refused n
refusing reopen n = refused n
refusing (work_out mark approach bytes) n = unworked bytes n
refusing (submit mark approach row) n = refused n
refusing (set_off train) n = kept train n
refusing step n = refused n
refusing leave n = refused n
