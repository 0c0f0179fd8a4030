use Rattle.std.proofs.Common.{rules}
use Rattle.trains.specs.Late.{late}
use Rattle.trains.proofs.Highest.{latest_due}
use Rattle.trains.proofs.late.LateTrain.latest_pace.Goals as goal

pub returns-clause-latest : goal.returns-clause-latest
returns-clause-latest g c = latest_due _ _ (late c.args.self.now) c.in-Some-Go.from (search rules) (search rules)
