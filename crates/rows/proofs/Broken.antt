-- The first rule that a code breaks is the first whose cap is below it. Assumes nothing.
use Rattle.std.proofs.Common.{ℕ, ◌≤◌, Bool, nat_lt, Some, None, Option, ltb-true, ltb-false}
use Rattle.std.specs.Option.{option_map, option_or}
use Rattle.codes.specs.declared.speeds.Code.{Code}
use Rattle.codes.specs.Speeds.{byte}
use Rattle.codes.proofs.Firsts.{FirstPassing}
use Rattle.rules.specs.Rules.{Rule, touching, ahead, service, stopping, next, rule_number}
use Rattle.rules.proofs.FirstRule.{first_rule}
use Rattle.rows.specs.declared.passing.FiveCaps.{FiveCaps}
use Rattle.rows.specs.declared.breaks.Break.{Break}
use Rattle.rows.specs.Examining.{cap, FirstBroken, broken_rule, Looked, obeyed, breaks}

module _ (caps : FiveCaps) (c : Code) where
  abbrev exceeds : Rule → Bool
  exceeds rule = nat_lt (byte (cap caps rule)) (byte c)

  broken : (o : Option Rule) → FirstPassing rule_number exceeds o → FirstBroken caps c o
  broken None none =
      let under : (rule : Rule) → byte c ≤ byte (cap caps rule) = λ rule. ltb-false (byte (cap caps rule)) (byte c) (none rule) in
      ((under touching, under ahead, under service, under stopping), under next)
  broken (Some rule) first = record {
    above = ltb-true (byte (cap caps rule)) (byte c) first.0;
    before = λ other l. ltb-false (byte (cap caps other)) (byte c) (first.1 other l);
  }

  looked : (j : ℕ) (known : Option Break) (o : Option Rule) → FirstBroken caps c o → Looked caps c j known (option_or (option_map (λ (rule : Rule). record { interval = j; rule = rule }) o) known)
  looked j known None within = obeyed within
  looked j known (Some rule) broken = breaks rule broken

  -- the first break known, once an interval was looked at
  pub looked_at : (j : ℕ) (known : Option Break) → Looked caps c j known (option_or (option_map (λ (rule : Rule). record { interval = j; rule = rule }) (broken_rule caps c)) known)
  looked_at j known = looked j known (broken_rule caps c) (broken (broken_rule caps c) (first_rule exceeds))
