-- What a replay promises: the run that its calls and answers are, and the law over it. Assumes nothing.
--     Begun start r             a blank sheet with its start, or the refusal that is due
--     ReplayedTo .. o after     the answers and what stands afterwards are those of a run from a blank sheet, and the run keeps the law
--     Replays .. r after         so it is, or the start was refused by 6, or memory was wanting; then nothing has changed
use Rattle.std.specs.Prelude.{◌≡◌, ℕ, List, map, Some, None, Ok, Err, vec_items, Result}
use Rattle.laws.specs.Books.{Emergencies, Services}
use Rattle.rows.specs.declared.failures.Failure.{Failure}
use Rattle.rows.specs.declared.failures.Failure.TheVariants.{Refused, Memory}
use Rattle.trains.specs.Braking.{Numbers}
use Rattle.sheet.specs.Sheets.{Tables, blank}
use Rattle.sheet.specs.Faults.{start_fault}
use Rattle.sheet.specs.Promises.{Blanks}
use Rattle.sheet.specs.declared.open.OpenSheet.{OpenSheet}
use Rattle.runs.specs.Orders.{Call}
use Rattle.runs.specs.Runs.{Run}
use Rattle.runs.specs.Law.{Law, sizes_of}
use Rattle.replay.specs.Meaning.{outcome_of, sheet_of}
use Rattle.replay.specs.declared.replayed.Replayed.{Replayed}

abbrev pub Begun : ℕ → Result OpenSheet Failure → Type 0
Begun start (Ok sheet) = Blanks start (Ok sheet)
Begun start (Err (Refused why)) = start_fault start ≡ Some why
Begun start (Err Memory) = ⊥

pub record ReplayedTo {B T : Type 0} (E : Emergencies) (D : Services) (numbers : T → Numbers) (start : ℕ) (tables : Tables) (calls : List Call)
    (o : Replayed B T) (after : Tables) : Type 0 where
  pub starts : start_fault start ≡ None
  -- the paces that trains told
  pub paces : List ℕ
  pub runs : Run E D (blank start tables) calls (map (outcome_of numbers) (vec_items o.answers)) paces (sheet_of numbers o.sheet after)
  pub law : Law E D (sizes_of tables) start calls (map (outcome_of numbers) (vec_items o.answers))

abbrev pub Replays : {B T : Type 0} → Emergencies → Services → (T → Numbers) → ℕ → Tables → List Call → Result (Replayed B T) Failure → Tables → Type 0
Replays E D numbers start tables calls (Ok o) after = ReplayedTo E D numbers start tables calls o after
Replays E D numbers start tables calls (Err (Refused why)) after = (start_fault start ≡ Some why) × (after ≡ tables)
Replays E D numbers start tables calls (Err Memory) after = (start_fault start ≡ None) × (after ≡ tables)
