use Rattle.std.proofs.Common.{◌≡◌, suc, length, get_or, sym, refl, ap, ◌∙◌, subst, arith}
use Rattle.std.proofs.lemmas.List.{get_or_past, length-reverse, length-map, length_push}
use Rattle.std.proofs.lemmas.Iterator.Adapters.{YieldsList-from_rev_slice}
use Rattle.std.proofs.lemmas.Iterator.Consumers.{YieldsList-turn, YieldsList-end}
use Rattle.codes.specs.declared.speeds.Code.TheVariants.{Stop, Go}
use Rattle.rules.specs.Rules.{code_at}
use Rattle.rows.specs.Targets.{track_of, mark_of}
use Rattle.rows.specs.Passing.{read_code, codes_of}
use Rattle.rows.specs.Examining.{Looked}
use Rattle.rows.proofs.Looks.{known_none, known_on, code_read}
use Rattle.rows.proofs.examining.first_break.Goals as goal

pub loop-byte-init : goal.loop-byte-init
loop-byte-init g c =
    let survey = c.args.survey.now in
    let row = c.args.row.now in
    let book = survey.book.now in
    let start = c.pass-pass.ensures in
    let interval = start.interval in
    let count = length-map row read_code in
    let size = c.requires in
    record {
      stage = start.stage;
      at = omega arith;
      known = known_none (track_of survey.line) (mark_of survey.target) (g.B.BrakingBook.emergencies book) (g.B.BrakingBook.services book) c.args.approach (codes_of row) (suc c.pass-pass.result.interval) (omega arith);
      next = start.next ∙ sym (get_or_past (codes_of row) c.pass-pass.result.interval Stop (omega arith));
    }

pub loop-byte-preserved : goal.loop-byte-preserved
loop-byte-preserved g c =
    let survey = c.args.survey.now in
    let row = c.args.row.now in
    let book = survey.book.now in
    let inv = c.loop-byte.invariant in
    let at = inv.at in
    let caps = c.caps-caps.result in
    let found = c.looked_at-found.result in
    let turn = YieldsList-turn (YieldsList-from_rev_slice row cc) c.loop-byte.yielded _ c.loop-byte.yielded_by _ _ c.in-Some.byte c.in-Some.is c.next.ensures.steps in
    let pushed = length_push c.loop-byte.yielded c.in-Some.byte in
    let i = c.further-pass.result.interval in
    let back = c.further-pass.ensures.interval in
    let here : c.loop-byte.pass.interval ≡ suc i = omega arith in
    let code : c.code_of-code.result ≡ code_at c.args.approach (codes_of row) (suc i) =
    c.code_of-code.ensures ∙ code_read c.args.approach row (suc i) (length c.loop-byte.yielded) c.in-Some.byte.now (omega arith) turn.0 turn.1 in
    record {
      stage = c.further-pass.ensures.stage;
      at = omega arith;
      known = known_on (track_of survey.line) (mark_of survey.target) (g.B.BrakingBook.emergencies book) (g.B.BrakingBook.services book) c.args.approach (codes_of row) (suc i) c.loop-byte.pass.interval
          c.loop-byte.pass.next c.code_of-code.result here (inv.next ∙ ap (λ n. get_or (codes_of row) n Stop) here) code (let size = c.requires in omega arith) caps c.caps-caps.ensures c.loop-byte.found found inv.known
          (subst (λ n. Looked caps c.code_of-code.result n c.loop-byte.found found) here c.looked_at-found.ensures);
      next = c.further-pass.ensures.next ∙ code;
    }

pub returns : goal.returns
returns g c =
    let survey = c.args.survey.now in
    let row = c.args.row.now in
    let book = survey.book.now in
    let inv = c.loop-byte.invariant in
    let at = inv.at in
    let end = YieldsList-end (YieldsList-from_rev_slice row cc) c.loop-byte.yielded _ c.loop-byte.yielded_by _ _ c.in-None.is c.next.ensures.steps in
    let long = length-reverse row in
    let last = end.1 in
    let here : c.loop-byte.pass.interval ≡ 0 = omega arith in
    known_on (track_of survey.line) (mark_of survey.target) (g.B.BrakingBook.emergencies book) (g.B.BrakingBook.services book) c.args.approach (codes_of row) 0 c.loop-byte.pass.interval
    c.loop-byte.pass.next (Go c.args.approach) here (inv.next ∙ ap (λ i. get_or (codes_of row) i Stop) here) refl (omega arith) c.caps.result c.caps.ensures c.loop-byte.found c.looked_at.result inv.known c.looked_at.ensures
