-- The figures of a book that may be laid over a lent table. Assumes nothing.
--     figures_over table    the figures in writing order: those of the table that is lent, the printed ones where none is
--     Agree E D E' D'       E and D answer each question as E' and D' do
--     Unlent table          the figures are the printed ones, make a book, and answer each question as printed
use Rattle.std.specs.Prelude.{◌≡◌, ℕ, true, List, Some, None, Option}
use Rattle.std.specs.Borrow.{Bor}
use Rattle.laws.specs.Books.{Emergencies, Services}
use Rattle.laws.specs.Questions.{Question, Asks, figure, emergency_of, service_of}
use Rattle.laws.specs.Judged.{fits}
use Rattle.books.specs.Printed.{printed_emergency, printed_service}
use Rattle.books.specs.PrintedLaws.{printed}

abbrev pub figures_over : Option (Bor (List ℕ)) → List ℕ
figures_over None = printed
figures_over (Some table) = table.now

abbrev pub Agree : Emergencies → Services → Emergencies → Services → Type 0
Agree E D E' D' = (q : Question) → Asks q → figure E D q ≡ figure E' D' q

pub record Unlent (table : Option (Bor (List ℕ))) : Type 0 where
  pub figures : figures_over table ≡ printed
  pub sound : fits (figures_over table) ≡ true
  pub answers : Agree (emergency_of (figures_over table)) (service_of (figures_over table)) printed_emergency printed_service
