use Rattle.std.proofs.Common.{◌≡◌, Decides, rules}
use Rattle.codes.specs.declared.speeds.Code.TheVariants.{Stop}
use Rattle.rows.proofs.Stopped.{only_stop_from_top, top_from_only_stop}
use Rattle.rows.proofs.passing.is_stopped.Goals as goal

pub returns : goal.returns
returns c =
    let limits = c.args.limits.now in
    let top = c.highest_code.result in
    let same : Decides c.eq.result (top ≡ Stop) = search rules in
    (λ e. only_stop_from_top limits top c.highest_code.ensures (same.0 e), λ only. same.1 (top_from_only_stop limits top c.highest_code.ensures only))
