-- The printed distances make a book: tests computed over all of them. Assumes nothing.
--     printed              the printed distances in writing order
--     printed_fits         they pass the test of a book
--     printed_distances    each is 1 to 4,095 m
--     printed_laws         they keep the four laws
use Rattle.std.specs.Prelude.{◌≡◌, ℕ, true, List, refl}
use Rattle.std.proofs.Common.{subst}
use Rattle.laws.specs.Books.{Metres, Distances, Laws}
use Rattle.laws.specs.Order.{row_in_order, class_in_order, in_order}
use Rattle.laws.specs.Questions.{Question, emergency, service, Asks, figure, questions, written}
use Rattle.laws.specs.Judged.{fits}
use Rattle.laws.proofs.Neighbours.{laws_from_order}
use Rattle.laws.proofs.Places.{written_at}
use Rattle.laws.proofs.Fits.{book_from_fits}
use Rattle.books.specs.Printed.{beside, printed_emergency, printed_service}
use Rattle.books.specs.BookTables.{metres_at}

abbrev pub printed : List ℕ
printed = written printed_emergency printed_service

pub printed_fits : fits printed ≡ true
unfolding written questions beside row_in_order class_in_order in_order
printed_fits = refl

printed_metres : (q : Question) → Asks q → Metres (figure printed_emergency printed_service q)
printed_metres q asks = subst Metres (written_at printed_emergency printed_service q asks) (metres_at printed (book_from_fits printed printed_fits) q asks)

pub printed_distances : Distances printed_emergency printed_service
printed_distances = record {
  emergency = λ k from to. printed_metres (emergency k from to);
  service = λ k from. printed_metres (service k from) tt;
}

printed_in_order : in_order printed_emergency printed_service ≡ true
unfolding beside row_in_order class_in_order in_order
printed_in_order = refl

pub printed_laws : Laws printed_emergency printed_service
printed_laws = laws_from_order printed_emergency printed_service printed_in_order
