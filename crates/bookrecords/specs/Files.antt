-- Which bytes are the file of a braking book. Assumes nothing.
--     same p q            p and q are one question
--     given q rs          the figures that the records rs state for question q, in their order
--     Means file E D      the file is a book's, and the book is E and D
use Rattle.std.specs.Prelude.{◌≡◌, ℕ, ◌≤◌, Bool, cond, List, [], ◌∷◌, length, ◌==◌}
use Rattle.std.specs.List.{AllByRecursion}
use Rattle.laws.specs.Books.{Emergencies, Services, Laws}
use Rattle.laws.specs.Questions.{Question, Asks, figure, place}
use Rattle.bookrecords.specs.Records.{Said, states, remarks, spelling, Possible}

-- each question that can be asked has a place of its own in writing order
abbrev pub same : Question → Question → Bool
same p q = place p == place q

unfoldable pub given : Question → List Said → List ℕ
given q [] = []
given q (states p metres ∷ rs) = cond (same q p) (metres ∷ given q rs) (given q rs)
given q (remarks bytes ∷ rs) = given q rs

-- at most 32,768 bytes that are records one after the other, each of which is possible; every figure comes once, in any order
-- and with any remarks between; and the four laws hold
pub record Means (file : List ℕ) (E : Emergencies) (D : Services) : Type 0 where
  pub short : length file ≤ 32768
  pub records : List Said
  pub spelt : file ≡ spelling records
  pub possible : AllByRecursion Possible records
  pub once : (q : Question) → Asks q → given q records ≡ figure E D q ∷ []
  pub laws : Laws E D
