use Rattle.std.proofs.Common.{◌≡◌, [], Some, arith}
use Rattle.codes.specs.Speeds.{speed_of}
use Rattle.rows.specs.Drawings.{drawing_of}
use Rattle.rows.proofs.Verdicts.{located_same, speed_same}
use Rattle.sheet.specs.States.{heading_of}
use Rattle.sheet.specs.Promises.{tables_of}
use Rattle.sheet.proofs.Passes.{few_drawn, place_bounded, judged}
use Rattle.sheet.proofs.judging.judge.Goals as goal

pub invariant_of-result : goal.invariant_of-result
invariant_of-result g c =
    let line = drawing_of c.in_ok-line.line in
    let few = few_drawn c.args.base (tables_of c.args.lent.now []) line c.in_ok-line.ensures.1 in
    record { near = place_bounded line c.args.mark _ 64 few c.in_ok-target.ensures }

pub returns : goal.returns
returns g c =
    let line = drawing_of c.in_ok-line.line in
    let pass = c.in_ok-examine.ensures in
    let drives = c.in_ok-approach.ensures in
    let driven : speed_of c.args.approach ≡ Some c.in_ok-approach.approach = grind arith in
    judged c.args.mark c.args.approach _ _ _ (heading_of c.args.base) (tables_of c.args.lent.now []) line _ c.in_ok-line.ensures.0 c.in_ok-line.ensures.1
    (record {
      pass = pass;
      target = located_same line c.args.mark _ _ pass.asked.located c.in_ok-target.ensures;
      speed = speed_same c.args.approach _ _ pass.asked.approaches driven;
    })
