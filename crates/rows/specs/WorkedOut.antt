-- The answer of a work-out, the bytes that it leaves, and when memory is wanting. Assumes nothing.
--     WorkedOut .. before r after    the row was written, or it was refused or memory failed and the bytes are as they were
--     Passing .. r after             what was written passes examination
--     Short .. before room           the mark and the approach code are found and the row has its size, and room bytes are fewer
--     Lacking .. before room r       memory is wanting exactly where it is short
use Rattle.std.specs.Prelude.{◌≡◌, ℕ, ◌<◌, ◌↔◌, List, length, Ok, Err, Result}
use Rattle.codes.specs.declared.speeds.Speed.{Speed}
use Rattle.codes.specs.Refusals.{notice}
use Rattle.laws.specs.Books.{Emergencies, Services}
use Rattle.rows.specs.Drawings.{Drawing}
use Rattle.rows.specs.declared.targets.Target.{Target}
use Rattle.rows.specs.declared.letters.StopLetter.{StopLetter}
use Rattle.rows.specs.declared.failures.Failure.{Failure}
use Rattle.rows.specs.declared.failures.Failure.TheVariants.{Refused, Memory}
use Rattle.rows.specs.Asking.{Asked}
use Rattle.rows.specs.WorkingOut.{Worked, Unworked}
use Rattle.rows.specs.Examining.{Passed}

abbrev pub WorkedOut : Drawing → ℕ → ℕ → Emergencies → Services → List ℕ → Result (StopLetter × ℕ) Failure → List ℕ → Type 0
WorkedOut drawing mark approach E D before (Ok told) after = Worked drawing mark approach E D after told.0 told.1
WorkedOut drawing mark approach E D before (Err (Refused why)) after = Unworked drawing mark approach E D before (notice why) × (after ≡ before)
WorkedOut drawing mark approach E D before (Err Memory) after = after ≡ before

abbrev pub Passing : Drawing → ℕ → ℕ → Emergencies → Services → Result (StopLetter × ℕ) Failure → List ℕ → Type 0
Passing drawing mark approach E D (Ok told) after = Passed drawing mark approach E D after
Passing drawing mark approach E D (Err why) after = Unit {0}

pub record Short (drawing : Drawing) (number approach : ℕ) (before : List ℕ) (room : ℕ) : Type 0 where
  pub target : Target
  pub speed : Speed
  pub asked : Asked drawing number approach target speed
  pub size : length before ≡ target.held.interval
  pub short : room < target.held.interval

-- where no interval's place is above room, want of memory is never the answer
abbrev pub Lacking : Drawing → ℕ → ℕ → List ℕ → ℕ → Result (StopLetter × ℕ) Failure → Type 0
Lacking drawing number approach before room r = (r ≡ Err Memory) ↔ Short drawing number approach before room
