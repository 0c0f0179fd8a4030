use Rattle.std.proofs.Common.{◌≡◌, Option, sym, subst, rules}
use Rattle.std.specs.Option.{option_map, option_or}
use Rattle.rows.specs.declared.breaks.Break.{Break}
use Rattle.rows.specs.Examining.{broken_rule, Looked}
use Rattle.rules.specs.Rules.{Rule}
use Rattle.rows.proofs.Broken.{looked_at}
use Rattle.rows.proofs.examining.looked_at.Goals as goal

pub returns : goal.returns
returns c =
    let told : ◌≡◌ {A = Option Break} c.or.result (option_or (option_map (λ (rule : Rule). record { interval = c.args.j; rule = rule }) (broken_rule c.args.caps.now c.args.code)) c.args.known) = search rules in
    subst (Looked c.args.caps.now c.args.code c.args.j c.args.known) (sym told) (looked_at c.args.caps.now c.args.code c.args.j c.args.known)
