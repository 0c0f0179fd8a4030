-- What a reader over a book file hands out, record by record. Assumes nothing.
--     said r                 what a record says
--     Placed p r             the bytes of a remark begin where it says, behind the length and kind of the record at p
--     Front bytes p r        r is the record at the front of the bytes from place p on
--     Hands file p r p'      from place p of the file the reader handed out r and stands at p'
use Rattle.std.specs.Prelude.{◌≡◌, ℕ, ◌+◌, ◌<◌, List, length, drop, Some, None, Ok, Err, Option, Result}
use Rattle.codes.specs.declared.refusals.Refusal.{Refusal}
use Rattle.codes.specs.Refusals.{Told, gives, refuses, notice}
use Rattle.laws.specs.Questions.{emergency, service}
use Rattle.bookrecords.specs.declared.records.Record.{Record}
use Rattle.bookrecords.specs.declared.records.Record.TheVariants.{Emergency, Service, Remark}
use Rattle.bookrecords.specs.Records.{Said, states, remarks, spelt, Begins}
use Rattle.bookrecords.specs.Decoding.{decoded}

abbrev pub said : Record → Said
said (Emergency class from to metres) = states (emergency class from to) metres
said (Service class from metres) = states (service class from) metres
said (Remark place bytes) = remarks bytes.now

abbrev pub Placed : ℕ → Record → Type 0
Placed start (Emergency class from to metres) = Unit {0}
Placed start (Service class from metres) = Unit {0}
Placed start (Remark place bytes) = place ≡ start + 4

-- r is the record at the front of bytes that begin at a place of the file
pub record Front (bytes : List ℕ) (start : ℕ) (r : Record) : Type 0 where
  pub says : decoded bytes ≡ gives (said r)
  pub begins : Begins bytes (said r)
  pub placed : Placed start r

abbrev pub Fronts : List ℕ → ℕ → Result Record Refusal → Type 0
Fronts bytes start (Ok r) = Front bytes start r
Fronts bytes start (Err w) = decoded bytes ≡ refuses (notice w)

-- a record was handed out, and the reader stands behind it
pub record Handed (file : List ℕ) (p : ℕ) (r : Record) (p' : ℕ) : Type 0 where
  pub front : Front (drop p file) p r
  pub moved : p' ≡ p + length (spelt (said r))

-- nothing at the end of the file, a record, or a refusal, which leaves the place
abbrev pub Hands : List ℕ → ℕ → Result (Option Record) Refusal → ℕ → Type 0
Hands file p (Ok None) p' = (p ≡ length file) × (p' ≡ p)
Hands file p (Ok (Some r)) p' = Handed file p r p'
Hands file p (Err w) p' = (p < length file) × (decoded (drop p file) ≡ refuses (notice w)) × (p' ≡ p)

abbrev pub told_record : Result Record Refusal → Told Said
told_record (Ok r) = gives (said r)
told_record (Err w) = refuses (notice w)
