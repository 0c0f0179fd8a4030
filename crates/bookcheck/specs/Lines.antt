-- The line that tells what became of a book file. Assumes nothing.
--     line_of r          the line for the outcome r of reading: `accepted 594`, or `refused N at B` with the refusal's number and place
--     Tells file text    the text is the line for the outcome of reading the file into a table of zeroes
use Rattle.std.specs.Prelude.{◌≡◌, ℕ, List, ◌++◌, replicate, Ok, Err, codes, decimal, Result}
use Rattle.codes.specs.Refusals.{notice}
use Rattle.bookfile.specs.declared.faults.Fault.{Fault}
use Rattle.bookfile.specs.Faults.{Read}

abbrev pub line_of : Result (Unit {0}) Fault → List ℕ
line_of (Ok done) = codes "accepted 594"
line_of (Err fault) = codes "refused " ++ (decimal (notice fault.refusal).0 ++ (codes " at " ++ decimal fault.place))

pub record Tells (file text : List ℕ) : Type 0 where
  pub outcome : Result (Unit {0}) Fault
  pub after : List ℕ
  pub read : Read file (replicate 594 0) outcome after
  pub line : text ≡ line_of outcome
