-- What a call reads before it changes anything. Assumes nothing.
--     Read fault P r           r is a value for which P holds, or the refusal that is due
--     way_fault heading gradients row pass    10, 11 for what a train under way reads
use Rattle.std.specs.Prelude.{◌≡◌, ℕ, ◌||◌, List, Some, None, Ok, Err, Option, Result}
use Rattle.codes.specs.declared.refusals.Refusal.{Refusal}
use Rattle.codes.specs.declared.refusals.Refusal.TheVariants as refusal
use Rattle.codes.specs.declared.gradients.Class.{Class}
use Rattle.ground.specs.declared.entries.Entry.{Entry}
use Rattle.entering.specs.Faults.{first}
use Rattle.entering.specs.Entering.{short}
use Rattle.sheet.specs.Sheets.{Heading, Pass}
use Rattle.sheet.specs.Faults.{row_short, strange, passed_bytes}

abbrev pub Read : {X : Type 0} → Option Refusal → (X → Type 0) → Result X Refusal → Type 0
Read fault P (Ok x) = (fault ≡ None) × P x
Read fault P (Err why) = fault ≡ Some why

-- the gradients and the row table, as a train's setting off and its steps read them
abbrev pub way_fault : Heading → List (Entry Class) → List ℕ → Pass → Option Refusal
way_fault heading gradients row pass =
    first (short gradients heading.gradients || row_short row) refusal.Size
    (first (strange (passed_bytes pass row)) refusal.Byte None)
