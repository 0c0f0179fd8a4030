-- The refusals of the whole library, as a host reads them. Assumes nothing.
--     rule_number r  the number of a rule, in the order in which the rules are tried
--     notice w       the number of a refusal, and the values that go with it
--     told r         what a call's result tells: its value, or the notice of its refusal
use Rattle.std.specs.Prelude.{ℕ, List, [], ◌∷◌, Ok, Err, Result}
use Rattle.codes.specs.declared.refusals.Refusal.{Refusal}
use Rattle.codes.specs.declared.refusals.Refusal.TheVariants as refusal
use Rattle.codes.specs.declared.refusals.Rule.{Rule}
use Rattle.codes.specs.declared.refusals.Rule.TheVariants.{Touching, Ahead, Service, Stopping, Next}
use Rattle.codes.specs.declared.refusals.FileFault.TheVariants.{Torn}
use Rattle.codes.specs.declared.refusals.RecordFault.TheVariants.{Kind, Entry}
use Rattle.codes.specs.declared.refusals.BookFault.TheVariants.{Twice, Gap, Order}

abbrev pub rule_number : Rule → ℕ
rule_number Touching = 1
rule_number Ahead = 2
rule_number Service = 3
rule_number Stopping = 4
rule_number Next = 5

-- the values of 12 are the interval's place and the rule's number; the others have none
abbrev pub notice : Refusal → ℕ × List ℕ
notice refusal.Full = (1, [])
notice refusal.Length = (2, [])
notice refusal.Doubled = (3, [])
notice refusal.Speed = (4, [])
notice refusal.Grade = (5, [])
notice refusal.Stretch = (6, [])
notice refusal.Overrun = (7, [])
notice refusal.Absent = (8, [])
notice refusal.Unready = (9, [])
notice refusal.Size = (10, [])
notice refusal.Byte = (11, [])
notice (refusal.Unlawful interval rule) = (12, interval ∷ rule_number rule ∷ [])
notice refusal.NoRow = (13, [])
notice refusal.Fast = (14, [])
notice (refusal.File Torn) = (15, [])
notice (refusal.Record Kind) = (16, [])
notice (refusal.Record Entry) = (17, [])
notice (refusal.Book Twice) = (18, [])
notice (refusal.Book Gap) = (19, [])
notice (refusal.Book Order) = (20, [])

-- a value, or a refusal by its notice
pub data Told (X : Type 0) : Type 0 where
  gives : X → Told X
  refuses : ℕ × List ℕ → Told X

abbrev pub told : {X : Type 0} → Result X Refusal → Told X
told (Ok x) = gives x
told (Err w) = refuses (notice w)
