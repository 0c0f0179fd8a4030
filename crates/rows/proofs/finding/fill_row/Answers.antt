use Rattle.std.proofs.Common.{◌≡◌, suc, ◌-◌, ◌≤◌, length, get_or, sym, ap, ◌∙◌, subst, arith}
use Rattle.std.proofs.lemmas.List.{get_or_past, length-map}
use Rattle.codes.specs.declared.speeds.Code.TheVariants.{Stop}
use Rattle.rows.specs.Targets.{track_of, mark_of}
use Rattle.rows.specs.Finding.{FoundFrom}
use Rattle.rows.specs.Passing.{read_code, codes_of}
use Rattle.rows.specs.WorkingOut.{Spells}
use Rattle.rows.proofs.Settles.{found_none, row_more, spells_more, code_set}
use Rattle.rows.proofs.finding.fill_row.Goals as goal

pub loop-i-init : goal.loop-i-init
loop-i-init g c =
    let survey = c.args.survey.now in
    let row = c.args.row.now in
    let book = survey.book.now in
    let start = c.pass-pass.ensures in
    record {
      stage = start.stage;
      at = start.interval ∙ sym c.requires;
      found = found_none (track_of survey.line) (mark_of survey.target) (g.B.BrakingBook.emergencies book) (g.B.BrakingBook.services book) row c.requires;
      next = start.next ∙ sym (get_or_past (codes_of row) (length row) Stop (let count = length-map row read_code in omega arith));
      spelt = λ k low high. absurd (omega arith);
    }

pub loop-i-preserved : goal.loop-i-preserved
loop-i-preserved g c =
    let survey = c.args.survey.now in
    let row = c.loop-i.row in
    let book = survey.book.now in
    let E = g.B.BrakingBook.emergencies book in
    let D = g.B.BrakingBook.services book in
    let inv = c.loop-i.invariant in
    let n = c.loop-i.i - 1 in
    let here : c.loop-i.i ≡ suc n = let some = c.loop-i-test.true in omega arith in
    let code = c.highest_within-code.result in
    let byte = c.byte.result in
    let room : suc n ≤ length row = let within = inv.stage.within in let at = inv.at in let long = c.loop-i.auto.row in let size = c.requires in omega arith in
    record {
      stage = c.further-pass.ensures.stage;
      at = let back = c.further-pass.ensures.interval in let at = inv.at in omega arith;
      found = row_more (track_of survey.line) (mark_of survey.target) E D n c.loop-i.i c.loop-i.pass.interval row byte code c.loop-i.pass.next c.caps-caps.result here inv.at inv.next
          c.caps-caps.ensures c.highest_within-code.ensures room c.byte.ensures inv.found;
      next = c.further-pass.ensures.next ∙ sym (code_set (track_of survey.line) (mark_of survey.target) E D n row byte code room c.byte.ensures);
      spelt = spells_more n row byte code room c.byte.ensures (subst (λ i. Spells i row) here inv.spelt);
    }

pub returns : goal.returns
returns g c =
    let survey = c.args.survey.now in
    let row = c.loop-i.row in
    let book = survey.book.now in
    let inv = c.loop-i.invariant in
    let end : c.loop-i.i ≡ 0 = let done = c.loop-i-test.false in omega arith in
    record {
      found = subst (λ i. FoundFrom (track_of survey.line) (mark_of survey.target) (g.B.BrakingBook.emergencies book) (g.B.BrakingBook.services book) i (codes_of row)) end inv.found;
      stage = inv.stage;
      approach = inv.at ∙ end;
      spelt = subst (λ i. Spells i row) end inv.spelt;
      size = c.loop-i.auto.row;
      next = inv.next ∙ ap (λ i. get_or (codes_of row) i Stop) end;
    }
