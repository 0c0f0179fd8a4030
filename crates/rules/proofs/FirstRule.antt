-- The first of the five rules that passes a test. Assumes nothing.
use Rattle.std.proofs.Common.{◌≡◌, ◌<◌, ◌≤◌, Bool, refl, arith}
use Rattle.std.specs.List.{find}
use Rattle.codes.proofs.Firsts.{FirstPassing, searched}
use Rattle.rules.specs.Rules.{Rule, rule_number, rules}

rule_apart : (r s : Rule) → rule_number r ≡ rule_number s → r ≡ s
rule_apart r s e = grind arith

rule_within : (r : Rule) → (1 ≤ rule_number r) × (rule_number r < 6)
rule_within r = (grind arith, grind arith)

pub first_rule : (test : Rule → Bool) → FirstPassing rule_number test (find test rules)
first_rule test =
    searched rule_number rule_apart test 1 rules (refl, (refl, (refl, (refl, (refl, λ r. (rule_within r).1))))) (λ r l. absurd (let least = (rule_within r).0 in omega arith))
