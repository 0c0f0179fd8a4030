-- Which number a word means. Assumes nothing.
--     Reader X          how a word is read as a value of X, or as none
--     numeral w         the number that a word of decimal digits writes; none where the word is empty or has another byte
--     upto limit w      that number, where it is at most the limit
--     signed_of w       the number that digits, or a minus and digits, write, where it is -2^31 to 2^31 - 1
use Rattle.std.specs.Prelude.{ℕ, ◌-◌, ◌^◌, cond, List, [], ◌∷◌, ℤ, pos, neg_ℤ, Some, None, Option, ◌==◌, nat_le}
use Rattle.std.specs.Option.{option_map}
use Rattle.std.specs.Str.{all_ascii_digits}
use Rattle.std.specs.Str.Parse.{digits_value}

abbrev pub Reader : Type 0 → Type 0
Reader X = List ℕ → Option X

unfoldable pub numeral : List ℕ → Option ℕ
numeral [] = None
numeral (b ∷ bs) = cond (all_ascii_digits (b ∷ bs)) (Some (digits_value 10 (b ∷ bs))) None

abbrev pub held : ℕ → Option ℕ → Option ℕ
held limit None = None
held limit (Some n) = cond (nat_le n limit) (Some n) None

abbrev pub upto : ℕ → List ℕ → Option ℕ
upto limit w = held limit (numeral w)

-- a minus is byte 45
abbrev pub signed_of : List ℕ → Option ℤ
signed_of [] = None
signed_of (b ∷ bs) = cond (b == 45) (option_map (λ n. neg_ℤ (pos n)) (upto (2 ^ 31) bs)) (option_map pos (upto (2 ^ 31 - 1) (b ∷ bs)))
