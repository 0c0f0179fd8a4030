use Rattle.std.proofs.Common.{length, sym, subst, arith}
use Rattle.std.proofs.lemmas.Result.{err_from_is_err_and}
use Rattle.codes.specs.declared.refusals.Refusal.{Refusal}
use Rattle.codes.specs.declared.refusals.Refusal.TheVariants.{Speed}
use Rattle.codes.specs.Speeds.{speed_of}
use Rattle.codes.specs.Refusals.{notice}
use Rattle.rows.specs.Drawings.{drawing_of}
use Rattle.rows.specs.Asking.{Unasked, absent, slow, missized}
use Rattle.rows.proofs.Refused.{none_from_err}
use Rattle.rows.proofs.asking.asked_for.Goals as goal

pub returns-in_err-target : goal.returns-in_err-target
returns-in_err-target c =
    let p = err_from_is_err_and c.from_residual.result c.from_residual.ensures.1 in
    let told = c.in_err-target.ensures in
    rw (p.1, p.2) (subst (Unasked (drawing_of c.args.line.now) c.args.mark c.args.approach (length c.args.row.now)) (sym told.0) (absent told.1))

pub returns-in_err-speed : goal.returns-in_err-speed
returns-in_err-speed c =
    let p = err_from_is_err_and c.from_residual-in_err-speed.result c.from_residual-in_err-speed.ensures.1 in
    let none = none_from_err (speed_of c.args.approach) Speed c.in_err-speed.field-0.0 c.in_err-speed.ensures in
    rw (p.1, p.2) (subst (λ (why : Refusal). Unasked (drawing_of c.args.line.now) c.args.mark c.args.approach (length c.args.row.now) (notice why)) (sym none.1)
    (slow c.in_ok-target.target c.in_ok-target.ensures none.0))

pub returns-then-row-target : goal.returns-then-row-target
returns-then-row-target c = missized c.in_ok-target.target c.in_ok-speed.speed (record { located = c.in_ok-target.ensures; approaches = grind arith }) c.if-row-target.true
