-- A table in writing order that is a book, asked by question. Assumes nothing.
--     metres_at xs              the figure that answers a question is 1 to 4,095 m
--     distances_from_book xs    and so each figure is
use Rattle.std.specs.Prelude.{ℕ, List, slice_index}
use Rattle.std.proofs.Common.{arith}
use Rattle.laws.specs.Books.{Metres, Distances}
use Rattle.laws.specs.Questions.{Question, emergency, service, Asks, place, emergency_of, service_of}
use Rattle.laws.specs.Judged.{Book}
use Rattle.laws.proofs.Places.{place_within}

pub metres_at : (xs : List ℕ) → Book xs → (q : Question) → Asks q → Metres (slice_index xs (place q))
metres_at xs book q asks = book.ranged (place q) (let within = place_within q asks in omega arith)

pub distances_from_book : (xs : List ℕ) → Book xs → Distances (emergency_of xs) (service_of xs)
distances_from_book xs book = record {
  emergency = λ k from to. metres_at xs book (emergency k from to);
  service = λ k from. metres_at xs book (service k from) tt;
}
