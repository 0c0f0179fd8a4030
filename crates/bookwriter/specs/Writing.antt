-- The bytes of a braking book's file, and how they come into a buffer. Assumes nothing.
--     stated E D q          the record that states the figure of question q
--     bytes_of E D qs       the bytes of the records of the questions qs, one after the other
--     file_of E D           the file of a book: the records of all questions in writing order
--     asked k from to       the emergency question, where its to is below its from
--     row k from            the emergency questions of class k from one speed
--     emergencies_of k, services_of k    all emergency and all service questions of class k
--     of_class k            all questions of class k
--     wrote before at bytes    a buffer in which the bytes were written from place at on
--     Wrote before at bytes after next    the bytes were written from place at on, and next is the place behind them
--     Puts before bytes after    a writer wrote the bytes behind those before
--     HasRoom E D writer qs      its buffer has room for the records of the questions qs
--     Writes E D before qs after    it wrote them
--     Written before E D r after    the book's file was written into a buffer, or refused by 10
--     Alone file E D        every book whose file this is has the figures of E and D
use Rattle.std.specs.Prelude.{◌≡◌, ℕ, ◌+◌, cond, List, [], ◌∷◌, ◌++◌, map, ◌≤◌, length, take, drop, Ok, Err, Result, ◌≢◌}
use Rattle.std.specs.List.{flat_map}
use Rattle.codes.specs.declared.speeds.Speed.{Speed}
use Rattle.codes.specs.declared.speeds.Code.{Code}
use Rattle.codes.specs.declared.speeds.Code.TheVariants.{Go}
use Rattle.codes.specs.declared.gradients.Class.{Class}
use Rattle.codes.specs.declared.refusals.Refusal.{Refusal}
use Rattle.codes.specs.Speeds.{lower, speeds, codes}
use Rattle.codes.specs.Refusals.{notice}
use Rattle.laws.specs.Books.{Emergencies, Services}
use Rattle.laws.specs.Questions.{Question, emergency, service, Asks, figure, questions}
use Rattle.bookwriter.specs.declared.records.Writer.{Writer}
use Rattle.bookrecords.specs.Records.{Said, states, spelling}
use Rattle.bookrecords.specs.Files.{Means}

abbrev pub stated : Emergencies → Services → Question → Said
stated E D q = states q (figure E D q)

unfoldable pub bytes_of : Emergencies → Services → List Question → List ℕ
bytes_of E D qs = spelling (map (stated E D) qs)

abbrev pub file_of : Emergencies → Services → List ℕ
file_of E D = bytes_of E D questions

-- only a to below from has a record
unfoldable pub asked : Class → Speed → Code → List Question
asked k from to = cond (lower to (Go from)) (emergency k from to ∷ []) []

-- to rising
unfoldable pub row : Class → Speed → List Question
row k from = flat_map (asked k from) codes

-- from rising, and for each from, to rising
unfoldable pub emergencies_of : Class → List Question
emergencies_of k = flat_map (row k) speeds

-- from rising
unfoldable pub services_of : Class → List Question
services_of k = flat_map (λ from. service k from ∷ []) speeds

-- the questions of a class in writing order
abbrev pub of_class : Class → List Question
of_class k = emergencies_of k ++ services_of k

-- all other places are as they were
abbrev pub wrote : List ℕ → ℕ → List ℕ → List ℕ
wrote before at bytes = take at before ++ (bytes ++ drop (length bytes) (drop at before))

pub record Wrote (before : List ℕ) (at : ℕ) (bytes : List ℕ) (after : List ℕ) (next : ℕ) : Type 0 where
  pub holds : after ≡ wrote before at bytes
  pub moved : next ≡ at + length bytes

-- the same by a writer, into the buffer that it has
pub record Puts (before : Writer) (bytes : List ℕ) (after : Writer) : Type 0 where
  pub wrote : Wrote before.buffer.now before.place bytes after.buffer.now after.place
  pub same : after.buffer.ghost_name ≡ before.buffer.ghost_name

abbrev pub HasRoom : Emergencies → Services → Writer → List Question → Type 0
HasRoom E D writer qs = writer.place + length (bytes_of E D qs) ≤ length writer.buffer.now

abbrev pub Writes : Emergencies → Services → Writer → List Question → Writer → Type 0
Writes E D before qs after = Puts before (bytes_of E D qs) after

-- a buffer of another size is left as it was
abbrev pub Written : List ℕ → Emergencies → Services → Result (Unit {0}) Refusal → List ℕ → Type 0
Written before E D (Ok done) after = (length before ≡ 5247) × (after ≡ file_of E D)
Written before E D (Err w) after = (length before ≢ 5247) × (notice w ≡ (10, [])) × (after ≡ before)

abbrev pub Alone : List ℕ → Emergencies → Services → Type 0
Alone file E D = (E' : Emergencies) (D' : Services) → Means file E' D' → (q : Question) → Asks q → figure E D q ≡ figure E' D' q
