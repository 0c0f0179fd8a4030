use Rattle.std.proofs.Common.{rules, ap₂, ◌∙◌}
use borrow.Author.Tests.{tests}
use Rattle.std.specs.Option.{unwrap_or}
use Rattle.std.proofs.lemmas.Iterator.{YieldsList-from_slice, YieldsList-from_map}
use Rattle.std.proofs.lemmas.Iterator.Consumers.{YieldsList-at, YieldsList-from_filter}
use Rattle.ground.specs.Ground.{covers, values_at, worst_of, metre_value}
use Rattle.ground.proofs.Reduced.{reduced}
use Rattle.ground.proofs.entries.value_at.Goals as goal

pub returns : goal.returns
unfolding metre_value worst_of values_at
returns g c =
    let worst =
    reduced _ g.V.Graded.grading.worse c.reduce.result c.reduce.ensures.ran
    (YieldsList-from_map _ (λ entry. entry.value)
    (YieldsList-at c.map.ensures.source
    (YieldsList-from_filter _ (covers c.args.metre) (YieldsList-from_slice c.args.entries.now cc) c.filter.ensures.closure (λ x r q k. search (rules, tests))))
    c.map.ensures.closure (λ x r q k. search rules))
    (λ a x b q k. search rules) in
    let undrawn = c.UNDRAWN.ensures ∙ g.met.V.Graded.undrawn in
    ◌∙◌ {b = unwrap_or c.reduce.result c.UNDRAWN.result} c.unwrap_or.ensures (ap₂ unwrap_or worst undrawn)
