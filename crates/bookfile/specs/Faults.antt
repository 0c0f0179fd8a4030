-- Why a file is not the file of a book, and where; and what reading one leaves. Assumes nothing.
--     located place r      the outcome r, whose refusal is due at the place
--     Sound rs             records that are possible and state no figure twice
--     Faulty file n p      refusal n is due to the file, at place p
--     Acceptable file table    the sizes are right, and the file is that of some book
--     Read file before r after    reading the file into the table before answered r and left the table after
use Rattle.std.specs.Prelude.{◌≡◌, ℕ, ◌<◌, ◌≤◌, Bool, true, false, ◌&&◌, List, [], ◌∷◌, ◌++◌, length, replicate, Ok, Err, Result, ◌==◌, nat_le}
use Rattle.std.specs.List.{AllByRecursion}
use Rattle.codes.specs.declared.refusals.Refusal.{Refusal}
use Rattle.codes.specs.Refusals.{refuses, notice}
use Rattle.laws.specs.Books.{Emergencies, Services, Laws}
use Rattle.laws.specs.Questions.{Question, Asks, figure, emergency_of, service_of}
use Rattle.bookrecords.specs.Records.{Said, states, spelt, spelling, Possible}
use Rattle.bookrecords.specs.Decoding.{decoded}
use Rattle.bookfile.specs.declared.faults.Fault.{Fault}
use Rattle.bookrecords.specs.Files.{given, Means}

abbrev pub located : {T : Type 0} → ℕ → Result T Refusal → Result T Fault
located place (Ok done) = Ok done
located place (Err why) = Err (record { refusal = why; place = place })

pub record Sound (rs : List Said) : Type 0 where
  pub possible : AllByRecursion Possible rs
  pub single : (q : Question) → Asks q → length (given q rs) ≤ 1

-- The file begins with sound records rs. Behind them stands a record that is torn (15), of a wrong kind (16) or impossible (17), or
-- one that states a figure again (18); or nothing, and a figure is missing (19), or all are there and break a law (20).
pub data Faulty (file : List ℕ) : ℕ → ℕ → Type 0 where
  damaged : (rs : List Said) (rest : List ℕ) (why : ℕ × List ℕ) → Sound rs → file ≡ spelling rs ++ rest → 0 < length rest → decoded rest ≡ refuses why → Faulty file why.0 (length (spelling rs))
  twice : (rs : List Said) (q : Question) (metres : ℕ) (rest : List ℕ) → Sound rs → file ≡ spelling rs ++ (spelt (states q metres) ++ rest) → Possible (states q metres) → 0 < length (given q rs) → Faulty file 18 (length (spelling rs))
  gap : (rs : List Said) (q : Question) → Sound rs → file ≡ spelling rs → Asks q → given q rs ≡ [] → Faulty file 19 (length file)
  order : (rs : List Said) (E : Emergencies) (D : Services) → Sound rs → file ≡ spelling rs → ((q : Question) → Asks q → given q rs ≡ figure E D q ∷ []) → (Laws E D → ⊥) → Faulty file 20 (length file)

-- a table of 594 figures and a file of at most 32,768 bytes
abbrev pub sized : List ℕ → List ℕ → Bool
sized file table = length table == 594 && nat_le (length file) 32768

-- A refusal by 10 comes first, tells place 0 and leaves the table; any other leaves it all zero.
pub record Refused (file before : List ℕ) (why : ℕ × List ℕ) (place : ℕ) (after : List ℕ) : Type 0 where
  pub size : sized file before ≡ false → (why ≡ (10, [])) × (place ≡ 0) × (after ≡ before)
  pub fault : sized file before ≡ true → Faulty file why.0 place × (after ≡ replicate 594 0)

-- An accepted file is that of the book whose figures then stand in the table, in writing order.
pub record Accepted (file before after : List ℕ) : Type 0 where
  pub size : sized file before ≡ true
  pub whole : length after ≡ 594
  pub means : Means file (emergency_of after) (service_of after)

abbrev pub Read : List ℕ → List ℕ → Result (Unit {0}) Fault → List ℕ → Type 0
Read file before (Ok done) after = Accepted file before after
Read file before (Err fault) after = Refused file before (notice fault.refusal) fault.place after

-- the same of a file and a table that have their sizes
abbrev pub Tabled : List ℕ → Result (Unit {0}) Fault → List ℕ → Type 0
Tabled file (Ok done) after = (length after ≡ 594) × Means file (emergency_of after) (service_of after)
Tabled file (Err fault) after = (length after ≡ 594) × Faulty file (notice fault.refusal).0 fault.place

-- what a file and a table have to be for the file to be accepted
abbrev pub Acceptable : List ℕ → List ℕ → Type 0
Acceptable file before = (sized file before ≡ true) × ((E : Emergencies) × ((D : Services) × Means file E D))
