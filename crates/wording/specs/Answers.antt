-- The texts of answers. Assumes nothing.
--     line_text n t       what is told of a line by its number
--     answer_text a row   the text of an answer, without a line feed; where a row was worked out, it is this row
use Rattle.std.specs.Prelude.{ℕ, List, ◌++◌, codes, decimal}
use Rattle.wording.specs.declared.answers.Answer.{Answer}
use Rattle.wording.specs.declared.answers.Answer.TheVariants.{Entered, WorkedOut, Passed, Refused, Unclear, NoStart}
use Rattle.wording.specs.Wordings.{refusal_text, row_text}

abbrev pub line_text : ℕ → List ℕ → List ℕ
line_text line told = codes "line " ++ (decimal line ++ (codes ": " ++ told))

abbrev pub answer_text : Answer → List ℕ → List ℕ
answer_text Entered row = codes "ok"
answer_text (WorkedOut letter place) row = row_text row letter place
answer_text Passed row = codes "pass"
answer_text (Refused refusal) row = refusal_text refusal
answer_text (Unclear line) row = line_text line (codes "not understood")
answer_text (NoStart line) row = line_text line (codes "no start")
