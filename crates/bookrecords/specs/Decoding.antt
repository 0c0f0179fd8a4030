-- What the record at the front of some bytes says, or its first fault. Assumes nothing.
--     number_at bytes i     the number in two bytes from place i
--     SplitOff bytes p      the bytes begin with the number p.0, and p.1 stands behind it
--     torn bytes            no record stands there: one byte is left, or its length is below 2 or reaches past the bytes
--     Whole bytes p         the record at the front is not torn, its kind is p.0 and its content p.1
--     headed class from f   what f says of the class and the speed; else refused by 17
--     told_further f r      what f says of the class and the speed of an outcome
--     emergency_entry class from to metres, service_entry class from metres    what these bytes say; else refused by 17
--     decoded bytes         what the record at the front says; else refused by 15 (torn), 16 (kind) or 17 (entry)
use Rattle.std.specs.Prelude.{ℕ, ◌+◌, ◌-◌, ◌*◌, ◌≡◌, ◌≤◌, Bool, false, cond, ◌&&◌, ◌||◌, List, [], length, drop, Some, None, Ok, Err, Option, Result, ◌==◌, nat_lt, slice_index}
use Rattle.std.specs.Borrow.{Bor}
use Rattle.std.specs.List.{between}
use Rattle.codes.specs.declared.gradients.Class.{Class}
use Rattle.codes.specs.declared.speeds.Speed.{Speed}
use Rattle.codes.specs.declared.refusals.Refusal.{Refusal}
use Rattle.codes.specs.declared.speeds.Code.TheVariants.{Go}
use Rattle.codes.specs.Speeds.{lower, speed_of, code_of}
use Rattle.codes.specs.Gradients.{class_of}
use Rattle.codes.specs.Refusals.{Told, gives, refuses, notice}
use Rattle.laws.specs.Judged.{metres}
use Rattle.laws.specs.Questions.{emergency, service}
use Rattle.bookrecords.specs.Records.{Said, states, remarks}

abbrev pub number_at : List ℕ → ℕ → ℕ
number_at bytes i = slice_index bytes i + 256 * slice_index bytes (i + 1)

abbrev pub torn : List ℕ → Bool
torn bytes = nat_lt (length bytes) 2 || nat_lt (number_at bytes 0) 2 || nat_lt (length bytes - 2) (number_at bytes 0)

-- a number of two bytes was split off the bytes
pub record SplitOff (bytes : List ℕ) (parts : ℕ × Bor (List ℕ)) : Type 0 where
  pub long : 2 ≤ length bytes
  pub number : parts.0 ≡ number_at bytes 0
  pub rest : parts.1.now ≡ drop 2 bytes

-- the record at the front is not torn, and has this kind and content
pub record Whole (bytes : List ℕ) (parts : ℕ × Bor (List ℕ)) : Type 0 where
  pub whole : torn bytes ≡ false
  pub kind : parts.0 ≡ number_at bytes 2
  pub content : parts.1.now ≡ between 4 (2 + number_at bytes 0) bytes

-- a part of a record that must be there, or the record is refused by 17
abbrev pub known : {X : Type 0} → Option X → (X → Told Said) → Told Said
known None f = refuses (17, [])
known (Some x) f = f x

-- what a record says further once its class and from are known
abbrev pub headed : ℕ → ℕ → (Class → Speed → Told Said) → Told Said
headed class from further = known (class_of class) (λ k. known (speed_of from) (further k))

-- the same of an outcome
abbrev pub told_further : (Class → Speed → Told Said) → Result (Class × Speed) Refusal → Told Said
told_further further (Ok (k, from)) = further k from
told_further further (Err w) = refuses (notice w)

-- what a class, from, to and metres say; and what a class, from and metres say
abbrev pub emergency_entry : ℕ → ℕ → ℕ → ℕ → Told Said
emergency_entry class from to distance =
    headed class from (λ k v. known (code_of to) (λ w.
    cond (lower w (Go v) && metres distance) (gives (states (emergency k v w) distance)) (refuses (17, []))))

abbrev pub service_entry : ℕ → ℕ → ℕ → Told Said
service_entry class from distance =
    headed class from (λ k v. cond (metres distance) (gives (states (service k v) distance)) (refuses (17, [])))

abbrev pub emergency_said : List ℕ → Told Said
emergency_said bytes = emergency_entry (slice_index bytes 4) (slice_index bytes 5) (slice_index bytes 6) (number_at bytes 7)

abbrev pub service_said : List ℕ → Told Said
service_said bytes = service_entry (slice_index bytes 4) (slice_index bytes 5) (number_at bytes 6)

-- all bytes of the record after its kind
abbrev pub remark_said : List ℕ → Told Said
remark_said bytes = gives (remarks (between 4 (2 + number_at bytes 0) bytes))

abbrev pub decoded : List ℕ → Told Said
decoded bytes =
    cond (torn bytes) (refuses (15, []))
    (cond (number_at bytes 2 == 1 && number_at bytes 0 == 7) (emergency_said bytes)
    (cond (number_at bytes 2 == 2 && number_at bytes 0 == 6) (service_said bytes)
    (cond (number_at bytes 2 == 3) (remark_said bytes)
    (refuses (16, [])))))
