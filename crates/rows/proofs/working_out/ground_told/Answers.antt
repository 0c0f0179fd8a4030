use Rattle.std.proofs.Common.{◌≡◌, ◌-◌, ap, ◌∙◌, subst, arith}
use Rattle.ground.specs.Ground.{stretch_value}
use Rattle.ground.specs.Kinds.{steepness}
use Rattle.rules.specs.Tracks.{begin_of}
use Rattle.rows.specs.Targets.{track_of, mark_of}
use Rattle.rows.specs.Finding.{Reached}
use Rattle.rows.specs.WorkingOut.{letter_of}
use Rattle.rows.proofs.Grounds.{first_of_ground}
use Rattle.rows.proofs.Beside.{stands}
use Rattle.rows.proofs.working_out.ground_told.Goals as goal

pub returns : goal.returns
returns g c =
    let survey = c.args.survey.now in
    let book = survey.book.now in
    let track = track_of survey.line in
    let mark = mark_of survey.target in
    let E = g.B.BrakingBook.emergencies book in
    let D = g.B.BrakingBook.services book in
    let place = c.args.pass.now.first in
    record {
      first = first_of_ground track mark E D (g.B.BrakingBook.distances book) (stands survey.line survey.target survey.located) place
          (subst (λ j. Reached track mark E D j place) c.requires.approach c.requires.stage.reached);
      tells =
          c.letter_of.ensures ∙ ap letter_of (c.worst_over-class.ensures.value ∙ ap (λ n. stretch_value steepness survey.line.gradients.now n survey.target.position)
          (let begin = c.requires.stage.ground in let before = c.saturating_sub-from.ensures in let e : c.saturating_sub-from.result ≡ begin_of track place - 170 = omega arith in e));
    }
