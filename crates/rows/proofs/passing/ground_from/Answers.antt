use Rattle.std.proofs.Common.{arith}
use Rattle.std.proofs.lemmas.Bool.Decides.{not_from_Decides}
use Rattle.rows.specs.Passing.{joined, kept}
use Rattle.rows.proofs.passing.ground_from.Goals as goal
use Rattle.rows.proofs.passing.ground_from.Goals.{else-is_beside-via-then-is_beside+else-is_stopped, else-is_beside-via-else-is_beside}

pub returns-then-is_stopped : goal.returns-then-is_stopped
returns-then-is_stopped c = joined (let beside = c.is_beside.ensures.0 c.if-is_beside.true in omega arith) (c.is_stopped.ensures.0 c.if-is_stopped.true)

pub returns-else-is_beside : goal.returns-else-is_beside
returns-else-is_beside c = kept (λ only e. elim c.else-is_beside.branch [
  | else-is_beside-via-then-is_beside+else-is_stopped w ↦ not_from_Decides _ w.is_stopped.ensures w.if-is_stopped.false only
  | else-is_beside-via-else-is_beside w ↦ not_from_Decides _ c.is_beside.ensures w.if-is_beside.false (omega arith)
])
