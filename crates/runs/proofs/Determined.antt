-- What stands after a list of calls follows from the sheet, the calls and the paces told. Assumes nothing.
use Rattle.std.proofs.Common.{◌≡◌, ℕ, List, sym, refl, ◌∙◌, subst}
use Rattle.laws.specs.Books.{Emergencies, Services}
use Rattle.sheet.specs.Sheets.{Sheet}
use Rattle.runs.specs.Orders.{Call, Outcome}
use Rattle.runs.specs.Runs.{Run, ended, then, Determined}
use Rattle.runs.proofs.DeterminedCalls.{does_once}

run_once : (E : Emergencies) (D : Services) {sheet one other : Sheet} {calls : List Call} {outcomes others : List Outcome} {paces paces' : List ℕ}
    → Run E D sheet calls outcomes paces one → Run E D sheet calls others paces' other → paces ≡ paces' → (outcomes ≡ others) × (one ≡ other)
run_once E D ended ended e = (refl, refl)
run_once E D (then {sheet} {between} {after} {call} {outcome} {calls} {outcomes} {later} told does run split)
    (then {between = between'} {after = after'} {outcome = outcome'} {outcomes = outcomes'} {later = later'} told' does' run' split') e =
    let (same, stands, rest) = does_once E D sheet call outcome outcome' told told' later later' between between' does does' (sym split ∙ e ∙ split') in
    let (others, left) = run_once E D run (subst (λ s. Run E D s calls outcomes' later' after') (sym stands) run') rest in
    (cc, left)

pub determined : (E : Emergencies) (D : Services) → Determined E D
determined E D sheet one other calls outcomes others paces run run' = run_once E D run run' refl
