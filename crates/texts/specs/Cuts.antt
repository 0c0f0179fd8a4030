-- How a script is cut into lines, and a line into words. Assumes nothing.
--     separates s b     whether byte b is a separator of kind s
--     is_blank b        whether byte b is a space, a tab or a carriage return
--     skip_blanks bs    the bytes of bs from the first on that is not blank
--     filled ps         the pieces that are not empty
--     ended ps          the pieces without the last, where that is empty
--     words_in bs       the words of bs: its pieces between blanks that are not empty
--     words_of line     the words of a line: those before the first number sign
--     lines_in text     the lines of a text: each ends with a line feed, and a last line without one counts
use Rattle.std.specs.Prelude.{ℕ, Bool, ◌||◌, not, List, [], ◌∷◌, ◌==◌, drop}
use Rattle.std.specs.List.{position_or_len, before_first, slice_split}
use Rattle.texts.specs.declared.cuts.Separator.{Separator}
use Rattle.texts.specs.declared.cuts.Separator.TheVariants.{LineFeed, Hash, Blank}

abbrev pub is_blank : ℕ → Bool
is_blank b = b == 32 || (b == 9 || b == 13)

abbrev pub separates : Separator → ℕ → Bool
separates LineFeed b = b == 10
separates Hash b = b == 35
separates Blank b = is_blank b

abbrev pub skip_blanks : List ℕ → List ℕ
skip_blanks bs = drop (position_or_len (λ b. not (is_blank b)) bs) bs

unfoldable pub filled : List (List ℕ) → List (List ℕ)
filled [] = []
filled ([] ∷ ws) = filled ws
filled ((b ∷ w) ∷ ws) = (b ∷ w) ∷ filled ws

unfoldable pub ended : List (List ℕ) → List (List ℕ)
ended [] = []
ended ([] ∷ []) = []
ended ((b ∷ w) ∷ []) = (b ∷ w) ∷ []
ended (w ∷ v ∷ ws) = w ∷ ended (v ∷ ws)

abbrev pub words_in : List ℕ → List (List ℕ)
words_in bs = filled (slice_split is_blank bs)

abbrev pub words_of : List ℕ → List (List ℕ)
words_of line = words_in (before_first (separates Hash) line)

abbrev pub lines_in : List ℕ → List (List ℕ)
lines_in text = ended (slice_split (separates LineFeed) text)
