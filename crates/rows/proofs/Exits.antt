-- Working out where a call is refused. Assumes nothing.
use Rattle.std.proofs.Common.{◌≡◌, ℕ, List, length, Ok, Err, Result, IsErrAnd, sym, refl, subst}
use Rattle.codes.specs.declared.speeds.Speed.{Speed}
use Rattle.codes.specs.declared.refusals.Refusal.{Refusal}
use Rattle.codes.specs.Refusals.{notice}
use Rattle.laws.specs.Books.{Emergencies, Services}
use Rattle.rows.specs.declared.targets.Target.{Target}
use Rattle.rows.specs.declared.letters.StopLetter.{StopLetter}
use Rattle.rows.specs.declared.failures.Failure.{Failure}
use Rattle.rows.specs.declared.failures.Failure.TheVariants.{Refused}
use Rattle.rows.specs.Drawings.{Drawing}
use Rattle.rows.specs.Asking.{Sized, Unasked}
use Rattle.rows.specs.WorkingOut.{Unsettled, Unworked, unasked, none}
use Rattle.rows.specs.WorkedOut.{WorkedOut}

module _ (drawing : Drawing) (number approach : ℕ) (before : List ℕ) (E : Emergencies) (D : Services) where
  -- by what is asked for
  pub worked_unasked : (r : Result (StopLetter × ℕ) Failure) (why : Refusal) → IsErrAnd r (λ failure. failure ≡ Refused why) → Unasked drawing number approach (length before) (notice why) → WorkedOut drawing number approach E D before r before
  worked_unasked (Ok told) why err due = absurd err
  worked_unasked (Err failure) why err due = subst (λ x. WorkedOut drawing number approach E D before (Err x) before) (sym err) (unasked (notice why) due, refl)

  -- because no row is lawful
  pub worked_unsettled : (r : Result (StopLetter × ℕ) Failure) (after : List ℕ) (why : Refusal) (target : Target) (speed : Speed) → IsErrAnd r (λ failure. failure ≡ Refused why)
      → Sized drawing number approach (length before) target speed → Unsettled drawing target E D speed before why after → WorkedOut drawing number approach E D before r after
  worked_unsettled (Ok told) after why target speed err sized settled = absurd err
  worked_unsettled (Err failure) after why target speed err sized settled =
      subst (λ x. WorkedOut drawing number approach E D before (Err x) after) (sym err)
      (subst (Unworked drawing number approach E D before) (sym settled.refused) (none target speed sized.asked sized.sized settled.none), settled.same)
