-- A word that is no byte leaves none of the words a row.
use Rattle.std.proofs.Common.{sym, ◌∙◌}
use Rattle.texts.proofs.ByteWords.{before_stop}
use Rattle.texts.proofs.readers.Words.push_bytes.Goals as goal

pub returns-in_default : goal.returns-in_default
returns-in_default c = c.loop-word.invariant.2 ∙ before_stop c.loop-word.buffer.items _ _ _ c.in-Some.ensures.steps (sym c.read.ensures ∙ c.in_default.is)
