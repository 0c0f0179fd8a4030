use Rattle.std.proofs.Common.{sym, refl}
use Rattle.std.proofs.lemmas.Bool.Decides.{not_from_Decides}
use Rattle.rows.specs.Targets.{track_of, mark_of}
use Rattle.rows.proofs.Beside.{beside_ground, before_ground}
use Rattle.rows.proofs.survey.Survey.caps.Goals as goal

pub returns-then-is_beside : goal.returns-then-is_beside
returns-then-is_beside g c =
    let survey = c.args.self.now in
    let book = survey.book.now in
    let pass = c.args.pass.now in
    record {
      four = c.limits_at-four.ensures.caps (track_of survey.line) (mark_of survey.target) pass.interval
          (record { drawn = refl; restricted = refl; begins = sym c.requires.begins; ends = sym c.requires.ends; marked = refl; endangered = refl });
      next = beside_ground survey.line survey.target survey.located (g.B.BrakingBook.emergencies book) (g.B.BrakingBook.services book) (g.B.BrakingBook.distances book) pass c.requires (c.is_beside.ensures.0 c.if-is_beside.true) pass.next;
    }

pub returns : goal.returns
returns g c =
    let survey = c.args.self.now in
    let book = survey.book.now in
    let pass = c.args.pass.now in
    record {
      four = c.limits_at-four.ensures.caps (track_of survey.line) (mark_of survey.target) pass.interval
          (record { drawn = refl; restricted = refl; begins = sym c.requires.begins; ends = sym c.requires.ends; marked = refl; endangered = refl });
      next = before_ground survey.line survey.target survey.located (g.B.BrakingBook.emergencies book) (g.B.BrakingBook.services book) (g.B.BrakingBook.distances book) pass c.requires (not_from_Decides _ c.is_beside.ensures c.if-is_beside.false) pass.next
          c.highest_towards-next.result c.highest_towards-next.ensures;
    }
