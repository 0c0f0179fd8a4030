-- Where the front is empty, no word is left.
use Rattle.std.proofs.Common.{true-eqb}
use Rattle.texts.proofs.Fronts.{no_word}
use Rattle.texts.proofs.readers.WordsIterator.next.Goals as goal

pub returns-then-is_empty-clause-steps : goal.returns-then-is_empty-clause-steps
returns-then-is_empty-clause-steps c = no_word c.args.self.now.rest.now _ _ _ c.skip_blanks.ensures c.split_front.ensures.front c.split_front.ensures.rest (true-eqb _ 0 c.if-is_empty.ensures)
