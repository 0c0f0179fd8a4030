-- When memory is wanting: where a row is asked for in order, and so never with a refusal by what is asked for. Assumes nothing.
use Rattle.std.proofs.Common.{ℕ, List, length, Err}
use Rattle.codes.specs.declared.refusals.Refusal.{Refusal}
use Rattle.codes.specs.Refusals.{notice}
use Rattle.rows.specs.Drawings.{Drawing}
use Rattle.rows.specs.declared.failures.Failure.TheVariants.{Refused}
use Rattle.rows.specs.Asking.{Unasked}
use Rattle.rows.specs.WorkedOut.{Lacking}
use Rattle.rows.proofs.Verdicts.{not_unasked_from_asked}

pub lacks_not_asked : (drawing : Drawing) (number approach : ℕ) (before : List ℕ) (room : ℕ) (why : Refusal) → Unasked drawing number approach (length before) (notice why) → Lacking drawing number approach before room (Err (Refused why))
lacks_not_asked drawing number approach before room why due = (
  λ e. absurd (cc),
  λ short. absurd (not_unasked_from_asked drawing number approach (length before) short.target short.speed short.asked short.size (notice why) due),
)
