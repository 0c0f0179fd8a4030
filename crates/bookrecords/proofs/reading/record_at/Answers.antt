use Rattle.std.proofs.Common.{◌≡◌, ◌+◌, ◌-◌, length, take, drop, ap, ◌∙◌, arith}
use Rattle.std.proofs.lemmas.List.{take_rest, get_or-drop}
use Rattle.bookrecords.specs.Decoding.{decoded}
use Rattle.bookrecords.proofs.Decodes.{fronts_from_told, within_from_fronts}
use Rattle.bookrecords.proofs.reading.record_at.Goals as goal

pub returns : goal.returns
returns c =
    let file = c.args.file.now in
    let place = c.args.place in
    let rest : take (length file - place) (drop place file) ≡ drop place file = take_rest file place in
    let fronts =
    fronts_from_told (drop place file) (λ i. let fits = c.type_inv.file (place + i) in let at = get_or-drop place file i 0 in omega arith) place c.first_record.result
    (c.first_record.ensures.said ∙ ap decoded rest) c.first_record.ensures.placed in
    record { fronts = fronts; within = within_from_fronts file place c.requires c.first_record.result fronts }
