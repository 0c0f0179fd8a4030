use Rattle.std.proofs.Common.{take, ap, ◌∙◌, arith}
use Rattle.replay.proofs.Parts.{take_within}
use Rattle.replay.proofs.lending.part.Goals as goal

pub returns : goal.returns
returns g c = ap (λ n. take n c.args.table.now) (omega arith) ∙ take_within c.args.lent c.args.table.now
