-- The words of refusals and rows. Assumes nothing.
--     word_of w                the word of a refusal
--     values_text vs           some numbers, each with a blank before it
--     refusal_text w           `refused`, the refusal's number, its word and its values
--     code_word b              a code by its byte: `stop`, or the speed in km/h
--     codes_text row           the codes of a row, each with a blank behind it
--     letter_word l            a stop letter
--     row_text row l place     the codes of a row, its stop letter and the place of the first interval of the stop ground
use Rattle.std.specs.Prelude.{ℕ, cond, List, [], ◌∷◌, ◌++◌, codes, decimal, ◌==◌}
use Rattle.std.specs.List.{flat_map}
use Rattle.codes.specs.declared.refusals.Refusal.{Refusal}
use Rattle.codes.specs.declared.refusals.Refusal.TheVariants as refusal
use Rattle.codes.specs.declared.refusals.FileFault.TheVariants.{Torn}
use Rattle.codes.specs.declared.refusals.RecordFault.TheVariants.{Kind, Entry}
use Rattle.codes.specs.declared.refusals.BookFault.TheVariants.{Twice, Gap, Order}
use Rattle.codes.specs.Refusals.{notice}
use Rattle.rows.specs.declared.letters.StopLetter.{StopLetter}
use Rattle.rows.specs.declared.letters.StopLetter.TheVariants.{Sf, Sv}

abbrev pub word_of : Refusal → List ℕ
word_of refusal.Full = codes "full"
word_of refusal.Length = codes "length"
word_of refusal.Doubled = codes "doubled"
word_of refusal.Speed = codes "speed"
word_of refusal.Grade = codes "grade"
word_of refusal.Stretch = codes "stretch"
word_of refusal.Overrun = codes "overrun"
word_of refusal.Absent = codes "absent"
word_of refusal.Unready = codes "unready"
word_of refusal.Size = codes "size"
word_of refusal.Byte = codes "byte"
word_of (refusal.Unlawful interval rule) = codes "unlawful"
word_of refusal.NoRow = codes "no row"
word_of refusal.Fast = codes "fast"
word_of (refusal.File Torn) = codes "torn"
word_of (refusal.Record Kind) = codes "kind"
word_of (refusal.Record Entry) = codes "entry"
word_of (refusal.Book Twice) = codes "twice"
word_of (refusal.Book Gap) = codes "gap"
word_of (refusal.Book Order) = codes "order"

abbrev pub values_text : List ℕ → List ℕ
values_text [] = []
values_text (v ∷ vs) = codes " " ++ (decimal v ++ values_text vs)

-- `refused`, a number and what follows it
abbrev pub plain_text : ℕ → List ℕ → List ℕ
plain_text number more = codes "refused " ++ (decimal number ++ (codes " " ++ more))

abbrev pub refusal_text : Refusal → List ℕ
refusal_text w = plain_text (notice w).0 (word_of w ++ values_text (notice w).1)

abbrev pub code_word : ℕ → List ℕ
code_word b = cond (b == 0) (codes "stop") (decimal b)

abbrev pub codes_text : List ℕ → List ℕ
codes_text = flat_map (λ b. code_word b ++ codes " ")

abbrev pub letter_word : StopLetter → List ℕ
letter_word Sf = codes "Sf"
letter_word Sv = codes "Sv"

abbrev pub row_text : List ℕ → StopLetter → ℕ → List ℕ
row_text row letter place = codes_text row ++ (letter_word letter ++ (codes " " ++ decimal place))
