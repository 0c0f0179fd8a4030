-- A call that is taken, by the refusal that is due. Assumes nothing.
use Rattle.std.proofs.Common.{◌≡◌, ℕ, List, [], Some, None, Option, sym, refl, subst, arith}
use Rattle.std.proofs.lemmas.Bool.Decides.{nat_tests as tells}
use Rattle.codes.specs.declared.refusals.Refusal.{Refusal}
use Rattle.codes.specs.Refusals.{notice}
use Rattle.laws.specs.Books.{Emergencies, Services}
use Rattle.sheet.specs.Sheets.{Tables, Phase, Sheet}
use Rattle.sheet.specs.States.{heading_of}
use Rattle.sheet.specs.declared.base.Base.{Base}
use Rattle.runs.specs.Orders.{Lent, Order, Outcome, refusing}
use Rattle.runs.specs.Orders as runs
use Rattle.runs.specs.Runs.{Ruled, Performs}
use Rattle.trains.specs.Braking.{Numbers}
use Rattle.replay.specs.Meaning.{order_of, lent_of, call_of, Performed}
use Rattle.replay.specs.declared.calls.Action.{Action}
use Rattle.replay.specs.declared.calls.Call.{Call}

pub clash : {X : Type 0} → ◌≡◌ {A = ℕ} 0 1 → X
clash e = absurd (omega arith)

-- a sheet over its base
abbrev pub on_base : Base → Tables → Phase → Sheet
on_base base tables phase = record { heading = heading_of base; tables = tables; phase = phase }

abbrev pub call : Lent → Order → runs.Call
call lent o = record { lent = lent; order = o }

module _ (E : Emergencies) (D : Services) (sheet : Sheet) (o : Order) (f : Option Refusal) (outcome : Outcome) where
  pub ruled_none : (paces : List ℕ) (after : Sheet) → f ≡ None → Performs E D sheet o outcome paces after → Ruled E D sheet o f outcome paces after
  ruled_none paces after e h = subst (λ (f : Option Refusal). Ruled E D sheet o f outcome paces after) (sym e) h

  pub ruled_some : (after : Sheet) (w : Refusal) → f ≡ Some w → outcome ≡ refusing o (notice w) → after ≡ sheet → Ruled E D sheet o f outcome [] after
  ruled_some after w e tells same = subst (λ (f : Option Refusal). Ruled E D sheet o f outcome [] after) (sym e) (tells, refl, same)

-- ---- what was answered, by the call's action and the answer's meaning
pub acted : {T : Type 0} (numbers : T → Numbers) {E : Emergencies} {D : Services} {sheet after : Sheet} (c : Call T) (action : Action T) {outcome told : Outcome}
    → c.action ≡ action → outcome ≡ told → Performed E D sheet (call (lent_of c.lent) (order_of numbers action)) told after
    → Performed E D sheet (call_of numbers c) outcome after
acted {T} numbers {E} {D} {sheet} {after} c action {outcome} {told} is tells h =
    subst (λ (o : Outcome). Performed E D sheet (call_of numbers c) o after) (sym tells)
    (subst (λ (a : Action T). Performed E D sheet (call (lent_of c.lent) (order_of numbers a)) told after) (sym is) h)
