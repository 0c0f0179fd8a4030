use Rattle.std.proofs.Common.{length, sym, ap, ◌∙◌, subst}
use Rattle.bookrecords.specs.Files.{Means}
use Rattle.bookwriter.specs.Writing.{Alone}
use Rattle.bookwriter.proofs.Meaning.{file_size, file_means, file_alone}
use Rattle.bookwriter.proofs.writing.write.Goals as goal

pub returns : goal.returns
returns g c =
    let E = g.B.BrakingBook.emergencies c.args.book.now in
    let D = g.B.BrakingBook.services c.args.book.now in
    let distances = g.B.BrakingBook.distances c.args.book.now in
    let laws = g.B.BrakingBook.laws c.args.book.now in
    let file = c.write_classes.ensures in
    record {
      written = (sym c.write_classes.auto.buffer ∙ ap length file ∙ file_size E D, file);
      means = subst (λ bytes. Means bytes E D) (sym file) (file_means E D distances laws);
      back = subst (λ bytes. Alone bytes E D) (sym file) (file_alone E D distances laws);
    }
