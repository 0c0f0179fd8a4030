use Rattle.std.proofs.Common.{◌≤◌, Decides, rules, subst}
use Rattle.codes.specs.declared.speeds.Code.TheVariants.{Go}
use Rattle.codes.specs.Speeds.{byte}
use Rattle.rows.specs.Targets.{track_of, mark_of}
use Rattle.rows.specs.Passing.{Five}
use Rattle.rows.proofs.Settles.{allowed_decided}
use Rattle.rows.proofs.working_out.is_allowed.Goals as goal

pub returns : goal.returns
returns g c =
    let survey = c.args.survey.now in
    let book = survey.book.now in
    let E = g.B.BrakingBook.emergencies book in
    let D = g.B.BrakingBook.services book in
    let pass = c.args.pass.now in
    let below : Decides c.le.result (byte (Go c.args.approach) ≤ byte c.highest_within.result) = search rules in
    allowed_decided (track_of survey.line) (mark_of survey.target) E D 0 pass.next c.caps.result (subst (λ j. Five (track_of survey.line) (mark_of survey.target) E D j pass.next c.caps.result) c.requires.approach c.caps.ensures)
    c.highest_within.result (Go c.args.approach) c.highest_within.ensures c.le.result below
