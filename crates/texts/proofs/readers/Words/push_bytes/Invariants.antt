use Rattle.std.proofs.Common.{◌≡◌}
use Rattle.texts.specs.Cuts.{words_in}
use Rattle.texts.specs.Operands.{bytes_of}
use Rattle.texts.proofs.ByteWords.{before}
use Rattle.texts.proofs.readers.Words.push_bytes.Given as goal

-- the bytes so far, before those of the words that are left, are the bytes of all
abbrev pub invariant-loop-word : goal.invariant-loop-word
invariant-loop-word l =
    (goal.iterator-loop-word).can_next l.word-iterator
    × (goal.iterator-loop-word).is_finite l.word-iterator
    × (bytes_of (words_in l.fn.self.rest.now) ≡ before l.buffer.items (words_in l.word-iterator.rest.now))
