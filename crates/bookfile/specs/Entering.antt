-- A table while the figures of a file are entered into it; 0 where none was given yet. Assumes nothing.
--     entry n                  the figures given for a question whose place in the table has n
--     Holds xs rs              the table xs has the figures that the records rs state, none of them twice
--     EnteredFigure n m r after    m was entered where n stood, or refused by 18 where n is a figure
--     Entered xs at m r ys     m was entered at a place of xs, or refused by 18 where a figure stands there
--     Enters xs s r ys         what a record says was entered into xs
--     Filled file xs           xs holds the figures of all records of the file
use Rattle.std.specs.Prelude.{◌≡◌, ℕ, zero, suc, Bool, List, [], ◌∷◌, length, replicate, Ok, Err, Result, ◌==◌, ◌≢◌, slice_index, slice_set}
use Rattle.std.specs.List.{AllByRecursion, list_any}
use Rattle.codes.specs.declared.refusals.Refusal.{Refusal}
use Rattle.codes.specs.Refusals.{notice}
use Rattle.laws.specs.Questions.{Question, Asks, place}
use Rattle.bookrecords.specs.Records.{Said, states, remarks, spelling, Possible}
use Rattle.bookfile.specs.declared.faults.Fault.{Fault}
use Rattle.bookrecords.specs.Files.{given}
use Rattle.bookfile.specs.Faults.{Faulty}

abbrev pub entry : ℕ → List ℕ
entry zero = []
entry (suc n) = suc n ∷ []

abbrev pub Holds : List ℕ → List Said → Type 0
Holds xs rs = (q : Question) → Asks q → given q rs ≡ entry (slice_index xs (place q))

-- the same of the one figure that stands at a place
abbrev pub EnteredFigure : ℕ → ℕ → Result (Unit {0}) Refusal → ℕ → Type 0
EnteredFigure n m (Ok done) after = (n ≡ 0) × (after ≡ m)
EnteredFigure n m (Err w) after = (n ≢ 0) × (notice w ≡ (18, [])) × (after ≡ n)

abbrev pub Entered : List ℕ → ℕ → ℕ → Result (Unit {0}) Refusal → List ℕ → Type 0
Entered xs at m (Ok done) ys = (slice_index xs at ≡ 0) × (ys ≡ slice_set xs at m)
Entered xs at m (Err w) ys = (slice_index xs at ≢ 0) × (notice w ≡ (18, [])) × (ys ≡ xs)

abbrev pub Passed : List ℕ → Result (Unit {0}) Refusal → List ℕ → Type 0
Passed xs (Ok done) ys = ys ≡ xs
Passed xs (Err w) ys = ⊥

abbrev pub Enters : List ℕ → Said → Result (Unit {0}) Refusal → List ℕ → Type 0
Enters xs (states q m) r ys = Entered xs (place q) m r ys
Enters xs (remarks bytes) r ys = Passed xs r ys

pub record Filled (file xs : List ℕ) : Type 0 where
  pub records : List Said
  pub spelt : file ≡ spelling records
  pub possible : AllByRecursion Possible records
  pub holds : Holds xs records

-- all records were entered, or the first fault was found
abbrev pub Fills : List ℕ → Result (Unit {0}) Fault → List ℕ → Type 0
Fills file (Ok done) after = Filled file after
Fills file (Err fault) after = Faulty file (notice fault.refusal).0 fault.place

-- a place of the table without a figure
abbrev pub has_gap : List ℕ → Bool
has_gap xs = list_any (λ x. x == 0) xs

-- the table after a file was taken or refused
abbrev pub left : Result (Unit {0}) Fault → List ℕ → List ℕ
left (Ok done) xs = xs
left (Err fault) xs = replicate (length xs) 0
