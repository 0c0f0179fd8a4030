use Rattle.std.proofs.Common.{◌≡◌, List, ℕ, length, ap, sym, ◌∙◌, subst, arith, rules}
use Rattle.std.specs.List.{flat_map}
use Rattle.codes.specs.declared.gradients.Class.TheVariants.{C1}
use Rattle.codes.specs.Gradients.{classes}
use Rattle.bookwriter.specs.Writing.{bytes_of, of_class, Wrote}
use Rattle.bookwriter.proofs.Joins.{wrote_whole, sofar_none, sofar_room, sofar_more, sofar_all}
use Rattle.bookwriter.proofs.Meaning.{in_writing_order, classes_size}
use Rattle.bookwriter.proofs.writing.write_classes.Goals as goal

pub loop-class-init : goal.loop-class-init
loop-class-init g c =
    let size = classes_size (g.B.BrakingBook.emergencies c.args.book.now) (g.B.BrakingBook.services c.args.book.now) in
    let full = ap length c.new-writer.ensures.buffer in
    let start = c.new-writer.ensures.place in
    sofar_none (omega (arith, c.requires))

pub write_class-requires : goal.write_class-requires
write_class-requires g c = sofar_room c.loop-class.invariant C1 c.loop-class-test.true

pub loop-class-preserved : goal.loop-class-preserved
loop-class-preserved g c = sofar_more c.loop-class.invariant C1 c.loop-class-test.true c.write_class.ensures

pub returns : goal.returns
returns g c =
    let E = g.B.BrakingBook.emergencies c.args.book.now in
    let D = g.B.BrakingBook.services c.args.book.now in
    let all = sofar_all c.loop-class.invariant c.loop-class-test.false in
    let same = all.same ∙ c.new-writer.ensures.same in
    let written =
    wrote_whole c.new-writer.result.buffer.now (bytes_of E D (flat_map of_class classes)) (classes_size E D ∙ sym c.requires ∙ ap length (sym c.new-writer.ensures.buffer))
    (subst (λ p. Wrote c.new-writer.result.buffer.now p (bytes_of E D (flat_map of_class classes)) c.loop-class.writer.buffer.now c.loop-class.writer.place) c.new-writer.ensures.place all.wrote)
    ∙ ap (bytes_of E D) in_writing_order in
    let back : ◌≡◌ {A = List ℕ} _ c.loop-class.writer.buffer.now = search (rules, same) in
    back ∙ written
