use Rattle.rows.proofs.Stages.{stage_further}
use Rattle.rows.proofs.survey.Survey.further.Goals as goal

pub returns-clause-stage : goal.returns-clause-stage
returns-clause-stage g c =
    let survey = c.args.self.now in
    let book = survey.book.now in
    stage_further survey.line survey.target survey.located (g.B.BrakingBook.emergencies book) (g.B.BrakingBook.services book) (g.B.BrakingBook.distances book) c.args.pass.now
    c.requires.stage c.requires.behind c.args.caps.now.four c.requires.capped c.ground_from-first.result c.ground_from-first.ensures c.begin_of.result c.begin_of.ensures c.args.code
