-- What a line of the table claims of the rules, by the published book. Assumes nothing.
--     WorkedOut sheet approach row letter place    the row is the highest lawful one, the stop ground begins at the place, and
--                                                  this is its letter
--     BrokenBy sheet approach row j rule           interval j is the first to break a rule, and this the first that it breaks
--     Holds example                                what the line says is what the rules say
use Rattle.std.specs.Prelude.{◌≡◌, ℕ, ◌-◌, List}
use Rattle.codes.specs.declared.speeds.Speed.{Speed}
use Rattle.codes.specs.declared.speeds.Code.{Code}
use Rattle.codes.specs.Gradients.{Faldtal, First}
use Rattle.books.specs.Printed.{printed_emergency, printed_service}
use Rattle.rules.specs.Tracks.{begin_of, class_over}
use Rattle.rules.specs.Rules.{train_length, Rule, Lawful}
use Rattle.rules.specs.Rows as rows
use Rattle.rows.specs.declared.letters.StopLetter.{StopLetter}
use Rattle.rows.specs.WorkingOut.{letter_of, FirstOfGround}
use Rattle.alfa.specs.declared.sheets.Variant.{Variant}
use Rattle.alfa.specs.declared.table.Example.{Example}
use Rattle.alfa.specs.declared.table.Example.TheVariants.{Highest, NoRow, Passes, Breaks, OfClass, NoFaldtal}
use Rattle.alfa.specs.Sheets.{track_for, mark_for}

-- the letter is that of the ground from a train's length before its first interval to the mark
pub record WorkedOut (sheet : Variant) (approach : Speed) (row : List Code) (letter : StopLetter) (place : ℕ) : Type 0 where
  pub highest : rows.Highest (track_for sheet) (mark_for sheet) printed_emergency printed_service approach row
  pub ground : FirstOfGround (track_for sheet) (mark_for sheet) printed_emergency printed_service place
  pub tells : letter ≡ letter_of (class_over (track_for sheet) (begin_of (track_for sheet) place - train_length) (mark_for sheet).position)

abbrev pub BrokenBy : Variant → Speed → List Code → ℕ → Rule → Type 0
BrokenBy sheet approach row interval rule = rows.Breaks (track_for sheet) (mark_for sheet) printed_emergency printed_service approach row interval rule

abbrev LawfulRow : Variant → Speed → List Code → Type 0
LawfulRow sheet approach row = Lawful (track_for sheet) (mark_for sheet) printed_emergency printed_service approach row

abbrev pub Holds : Example → Type 0
Holds (Highest sheet approach row letter place) = WorkedOut sheet approach row letter place
Holds (NoRow sheet approach) = (row : List Code) → LawfulRow sheet approach row → ⊥
Holds (Passes sheet approach row) = LawfulRow sheet approach row
Holds (Breaks sheet approach row interval rule) = BrokenBy sheet approach row interval rule
Holds (OfClass faldtal class) = Faldtal faldtal × First faldtal class
Holds (NoFaldtal faldtal) = Faldtal faldtal → ⊥
