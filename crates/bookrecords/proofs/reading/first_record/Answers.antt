use Rattle.std.proofs.Common.{◌∙◌, arith}
use Rattle.bookrecords.proofs.Decodes.{whole_found, emergency_from_five, service_from_four}
use Rattle.bookrecords.proofs.reading.first_record.Goals as goal

pub returns-in-1-len5-clause-said : goal.returns-in-1-len5-clause-said
returns-in-1-len5-clause-said c =
    let whole = whole_found c.args.bytes.now c.kind_and_content.result c.kind_and_content.ensures c.in_ok-ok_or.field-0 c.in_ok-ok_or.ensures.ok_part in
    c.emergency_record.ensures.said ∙ emergency_from_five c.args.bytes.now c.in_ok-ok_or.field-0 whole (omega arith) (omega arith) c.from_le_bytes.result (omega arith)

pub returns-in-1-len5-clause-placed : goal.returns-in-1-len5-clause-placed
returns-in-1-len5-clause-placed c = c.emergency_record.ensures.placed c.args.place

pub returns-in-2-len4-clause-said : goal.returns-in-2-len4-clause-said
returns-in-2-len4-clause-said c =
    let whole = whole_found c.args.bytes.now c.kind_and_content.result c.kind_and_content.ensures c.in_ok-ok_or.field-0 c.in_ok-ok_or.ensures.ok_part in
    c.service_record.ensures.said ∙ service_from_four c.args.bytes.now c.in_ok-ok_or.field-0 whole (omega arith) (omega arith) c.from_le_bytes-in-2-len4.result (omega arith)
