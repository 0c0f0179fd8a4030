-- Files that differ in the order of their records and in their remarks alone. Assumes nothing.
--     figures rs              the figures that records state, without the remarks
--     Orderless file r after  where reading file gave the table after, every reordered file is that of the same book
--     Reordered file file'    file' has the figures of file in any order, and any remarks
use Rattle.std.specs.Prelude.{◌≡◌, ℕ, ◌≤◌, List, [], ◌∷◌, length, Ok, Err, Result}
use Rattle.std.specs.List.Sorted.{IsPermutation}
use Rattle.std.specs.List.{AllByRecursion}
use Rattle.laws.specs.Questions.{Question, emergency_of, service_of}
use Rattle.bookrecords.specs.Records.{Said, states, remarks, spelling, Possible}
use Rattle.bookfile.specs.declared.faults.Fault.{Fault}
use Rattle.bookrecords.specs.Files.{Means}

unfoldable pub figures : List Said → List (Question × ℕ)
figures [] = []
figures (states q metres ∷ rs) = (q, metres) ∷ figures rs
figures (remarks bytes ∷ rs) = figures rs

pub record Reordered (file file' : List ℕ) : Type 0 where
  pub records : List Said
  pub records' : List Said
  pub spelt : file ≡ spelling records
  pub spelt' : file' ≡ spelling records'
  pub possible : AllByRecursion Possible records
  pub possible' : AllByRecursion Possible records'
  pub shuffled : IsPermutation (figures records) (figures records')

-- an accepted file's book is also that of each file, of at most 32,768 bytes, that is the same but for order and remarks
abbrev pub Orderless : List ℕ → Result (Unit {0}) Fault → List ℕ → Type 0
Orderless file (Ok done) after = (file' : List ℕ) → length file' ≤ 32768 → Reordered file file' → Means file' (emergency_of after) (service_of after)
Orderless file (Err fault) after = Unit {0}
