use Rattle.std.proofs.Common.{◌∙◌}
use Rattle.std.proofs.lemmas.List.{length-map}
use Rattle.std.proofs.lemmas.Result.{err_from_is_err_and}
use Rattle.std.proofs.lemmas.Bool.Decides.{not_from_Decides}
use Rattle.rows.specs.Targets.{track_of, mark_of}
use Rattle.rows.specs.Passing.{read_code, codes_of}
use Rattle.rows.specs.Examining.{unasked, strange, unlawful}
use Rattle.rows.proofs.Bytes.{spells_decided}
use Rattle.rows.proofs.Looks.{lawful_from_known, breaks_from_known}
use Rattle.rows.proofs.examining.examine.Goals as goal

pub returns-in_err-target : goal.returns-in_err-target
returns-in_err-target g c =
    let p = err_from_is_err_and c.from_residual.result c.from_residual.ensures.1 in
    rw (p.1, p.2) (unasked _ c.in_err-target.ensures)

pub returns-then-not-are_codes : goal.returns-then-not-are_codes
returns-then-not-are_codes g c =
    strange c.in_ok-target.target c.in_ok-target.speed c.in_ok-target.ensures.asked c.in_ok-target.ensures.sized
    (not_from_Decides _ (spells_decided c.args.row.now c.are_codes.result c.are_codes.ensures) c.if-not-are_codes.true)

pub returns-in-None : goal.returns-in-None
returns-in-None g c =
    let book = c.args.book.now in
    record {
      target = c.in_ok-target.target;
      speed = c.in_ok-target.speed;
      asked = c.in_ok-target.ensures.asked;
      spelt = (spells_decided c.args.row.now c.are_codes.result c.are_codes.ensures).0 c.if-not-are_codes.false;
      lawful = lawful_from_known (track_of c.args.line.now) (mark_of c.in_ok-target.target) (g.B.BrakingBook.emergencies book) (g.B.BrakingBook.services book) c.in_ok-target.speed (codes_of c.args.row.now)
          (length-map c.args.row.now read_code ∙ c.in_ok-target.ensures.sized) c.in-None.ensures;
    }

pub returns-in-Some : goal.returns-in-Some
returns-in-Some g c =
    let book = c.args.book.now in
    let line = c.args.line.now in
    let E = g.B.BrakingBook.emergencies book in
    let D = g.B.BrakingBook.services book in
    let found = c.in-Some.found in
    let known = c.in-Some.ensures in
    rw c.into.ensures (unlawful c.in_ok-target.target c.in_ok-target.speed c.in_ok-target.ensures.asked c.in_ok-target.ensures.sized
    ((spells_decided c.args.row.now c.are_codes.result c.are_codes.ensures).0 c.if-not-are_codes.false) found.interval found.rule
    (breaks_from_known (track_of line) (mark_of c.in_ok-target.target) E D c.in_ok-target.speed (codes_of c.args.row.now) found known))
