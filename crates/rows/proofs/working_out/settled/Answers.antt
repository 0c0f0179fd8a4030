use Rattle.std.proofs.Common.{sym, refl, ◌∙◌, subst}
use Rattle.std.proofs.lemmas.Bool.{cond-true, cond-false}
use Rattle.std.proofs.lemmas.Bool.Decides.{not_from_Decides}
use Rattle.codes.specs.declared.speeds.Code.TheVariants.{Go}
use Rattle.rules.specs.Rules.{Allowed}
use Rattle.rules.specs.Rows.{Highest}
use Rattle.rows.specs.Targets.{track_of, mark_of}
use Rattle.rows.specs.Passing.{codes_of}
use Rattle.rows.specs.WorkingOut.{Spells}
use Rattle.rows.proofs.Higher.{approach_allowed, found_highest}
use Rattle.rows.proofs.working_out.settled.Goals as goal

pub returns-else-allowed : goal.returns-else-allowed
returns-else-allowed g c =
    let survey = c.args.survey.now in
    let track = track_of survey.line in
    let mark = mark_of survey.target in
    let book = survey.book.now in
    let E = g.B.BrakingBook.emergencies book in
    let D = g.B.BrakingBook.services book in
    record {
      refused = refl;
      none = λ other lawful. not_from_Decides _ c.is_allowed-allowed.ensures c.if-allowed.false
          (subst (Allowed track mark E D 0 (Go c.args.approach)) (sym c.fill_row-pass.ensures.next)
          (approach_allowed E D (g.B.BrakingBook.laws book) track mark (codes_of c.fill_row-pass.new.row) c.fill_row-pass.ensures.found c.args.approach other lawful));
      same = c.copy_lawful.ensures ∙ cond-false c.is_allowed-allowed.result _ _ c.if-allowed.false;
    }

pub returns-then-allowed : goal.returns-then-allowed
returns-then-allowed g c =
    let survey = c.args.survey.now in
    let track = track_of survey.line in
    let mark = mark_of survey.target in
    let book = survey.book.now in
    let E = g.B.BrakingBook.emergencies book in
    let D = g.B.BrakingBook.services book in
    let copied = sym (c.copy_lawful.ensures ∙ cond-true c.is_allowed-allowed.result _ _ c.if-allowed.true) in
    let allowed = subst (Allowed track mark E D 0 (Go c.args.approach)) c.fill_row-pass.ensures.next (c.is_allowed-allowed.ensures.0 c.if-allowed.true) in (
      subst (λ bytes. Highest track mark E D c.args.approach (codes_of bytes)) copied
          (found_highest E D (g.B.BrakingBook.laws book) track mark (codes_of c.fill_row-pass.new.row) c.fill_row-pass.ensures.found c.args.approach allowed),
      subst (Spells 0) copied c.fill_row-pass.ensures.spelt,
      c.ground_told.ensures,
    )
