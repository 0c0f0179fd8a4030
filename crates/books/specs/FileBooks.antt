-- What a file book shows. Assumes nothing.
--     shown book              its figures in writing order
--     laid before table r     what a book that showed before then shows: the table where r is no refusal
--     shown_distances book    each figure that it shows is 1 to 4,095 m
--     shown_laws book         they keep the four laws
use Rattle.std.specs.Prelude.{ℕ, List, Ok, Err, Result}
use Rattle.codes.specs.declared.refusals.Refusal.{Refusal}
use Rattle.laws.specs.Books.{Distances, Laws}
use Rattle.laws.specs.Questions.{emergency_of, service_of}
use Rattle.laws.specs.Judged.{Book}
use Rattle.laws.proofs.Fits.{book_from_fits}
use Rattle.books.specs.declared.file_book.FileBook.{FileBook}
use Rattle.books.specs.Lent.{figures_over}
use Rattle.books.specs.BookTables.{distances_from_book}

abbrev pub shown : FileBook → List ℕ
shown book = figures_over book.table

abbrev pub laid : List ℕ → List ℕ → Result (Unit {0}) Refusal → List ℕ
laid before table (Ok done) = table
laid before table (Err why) = before

shown_book : (book : FileBook) → Book (shown book)
shown_book book = book_from_fits (shown book) book.sound

pub shown_distances : (book : FileBook) → Distances (emergency_of (shown book)) (service_of (shown book))
shown_distances book = distances_from_book (shown book) (shown_book book)

pub shown_laws : (book : FileBook) → Laws (emergency_of (shown book)) (service_of (shown book))
shown_laws book = (shown_book book).keeps
