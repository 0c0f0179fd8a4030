use Rattle.std.proofs.Common.{◌≡◌, ℕ, List, Some, None, Ok, Err, Option, Result, sym, ap, ◌∙◌, subst}
use Rattle.codes.specs.declared.refusals.Refusal.{Refusal}
use Rattle.codes.specs.Refusals.{notice}
use Rattle.bookrecords.specs.declared.records.Record.{Record}
use Rattle.bookrecords.specs.Reading.{said, Hands}
use Rattle.bookfile.specs.declared.faults.Fault.{Fault}
use Rattle.bookfile.specs.Faults.{located}
use Rattle.bookfile.specs.Entering.{Enters}
use Rattle.bookfile.proofs.Sofar.{Sofar, sofar_none, sofar_damaged, sofar_all, sofar_more, sofar_twice, refused_at, passed_at, faulty_fills}
use Rattle.bookfile.proofs.filling.fill.Goals as goal

-- what the reader handed out of the file
of-file : (kept file : List ℕ) → kept ≡ file → (p p' : ℕ) (o r : Result (Option Record) Refusal) → o ≡ r → Hands kept p o p' → Hands file p r p'
of-file kept file same p p' o r is hands = subst (λ f. Hands f p r p') same (subst (λ x. Hands kept p x p') is hands)

-- the same where an outcome was handed on with its place
handed : (kept file : List ℕ) → kept ≡ file → (p p' q : ℕ) (o : Result (Option Record) Refusal) (r : Result (Option Record) Fault) → r ≡ located q o → Hands kept p o p' → (found x : Option Record) → r ≡ Ok found → found ≡ x → Hands file p (Ok x) p'
handed kept file same p p' q o r at hands found x ok is = of-file kept file same p p' o (Ok x) (passed_at q o r at found ok ∙ ap (λ f. Ok f) is) hands

pub records-init : goal.records-init
records-init c = (
  c.new-reader.ensures.file,
  subst (λ p. Sofar c.args.file.now p c.args.table.now) (sym c.new-reader.ensures.place)
      (subst (Sofar c.args.file.now 0) (sym c.requires) (sofar_none c.args.file.now)),
)

pub returns-in_err-item : goal.returns-in_err-item
returns-in_err-item c =
    let inv = c.records.invariant in
    let place = c.records.reader.place in
    let fault = c.in_err-item.field-0.0 in
    let refused = refused_at c.place-place.result c.next.result c.at.result c.at.ensures fault c.in_err-item.was in
    let hands = of-file c.records.reader.file.now c.args.file.now inv.0 place c.next.new.self.place c.next.result (Err fault.refusal) refused.0 c.next.ensures.hands in
    let due = sofar_damaged c.args.file.now place c.records.table inv.1 (notice fault.refusal) hands.0 hands.1 in
    faulty_fills c.args.file.now c.records.table place fault (sym c.place-place.ensures ∙ refused.1) due c.from_residual.result c.from_residual.ensures.1

pub returns-in_default : goal.returns-in_default
returns-in_default c =
    let inv = c.records.invariant in
    let place = c.records.reader.place in
    let hands = handed c.records.reader.file.now c.args.file.now inv.0 place c.next.new.self.place c.place-place.result c.next.result c.at.result c.at.ensures c.next.ensures.hands c.in_ok-item.field-0 None c.in_ok-item.was c.in_default.is in
    sofar_all c.args.file.now place c.records.table inv.1 hands.0

pub returns-in_err-at : goal.returns-in_err-at
returns-in_err-at c =
    let inv = c.records.invariant in
    let place = c.records.reader.place in
    let item = c.in-Some.item in
    let hands = handed c.records.reader.file.now c.args.file.now inv.0 place c.next.new.self.place c.place-place.result c.next.result c.at.result c.at.ensures c.next.ensures.hands c.in_ok-item.field-0 (Some item) c.in_ok-item.was c.in-Some.is in
    let fault = c.in_err-at.field-0.0 in
    let refused = refused_at c.place-place.result c.enter_record.result c.at-in-records.result c.at-in-records.ensures fault c.in_err-at.was in
    let entered = subst (λ r. Enters c.records.table (said item) r c.enter_record.new.table) refused.0 c.enter_record.ensures in
    let due = sofar_twice c.args.file.now place c.records.table inv.1 (said item) hands.front.begins fault.refusal c.enter_record.new.table entered in
    faulty_fills c.args.file.now c.enter_record.new.table place fault (sym c.place-place.ensures ∙ refused.1) due c.from_residual-in_err-at.result c.from_residual-in_err-at.ensures.1

pub records-preserved : goal.records-preserved
records-preserved c =
    let inv = c.records.invariant in
    let place = c.records.reader.place in
    let item = c.in-Some.item in
    let hands = handed c.records.reader.file.now c.args.file.now inv.0 place c.next.new.self.place c.place-place.result c.next.result c.at.result c.at.ensures c.next.ensures.hands c.in_ok-item.field-0 (Some item) c.in_ok-item.was c.in-Some.is in
    let done = passed_at c.place-place.result c.enter_record.result c.at-in-records.result c.at-in-records.ensures c.in_ok-at.field-0 c.in_ok-at.was in
    let entered = subst (λ r. Enters c.records.table (said item) r c.enter_record.new.table) done c.enter_record.ensures in (
      c.next.ensures.same ∙ inv.0,
      sofar_more c.args.file.now place c.records.table inv.1 (said item) hands.front.begins c.next.new.self.place hands.moved c.enter_record.new.table entered,
    )
