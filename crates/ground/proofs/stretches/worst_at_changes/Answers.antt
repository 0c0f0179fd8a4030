use Rattle.ground.proofs.stretches.worst_at_changes.Goals as goal

pub returns-clause-lawful : goal.returns-clause-lawful
returns-clause-lawful g c = g.met.V.Graded.lawful
