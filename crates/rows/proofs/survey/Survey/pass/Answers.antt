use Rattle.rows.proofs.Stages.{stage_none}
use Rattle.rows.proofs.survey.Survey.pass.Goals as goal

pub returns-clause-stage : goal.returns-clause-stage
returns-clause-stage g c =
    let survey = c.args.self.now in
    let book = survey.book.now in
    let start = c.started.ensures in
    stage_none survey.line survey.target survey.located (g.B.BrakingBook.emergencies book) (g.B.BrakingBook.services book) (g.B.BrakingBook.distances book) c.started.result
    start.interval start.begin start.end start.first start.ground
