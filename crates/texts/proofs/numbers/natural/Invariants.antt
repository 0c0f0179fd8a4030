use Rattle.std.proofs.Common.{◌≡◌, ◌≤◌, drop}
use Rattle.texts.specs.Numbers.{held, upto}
use Rattle.texts.proofs.Values.{digits_after}
use Rattle.texts.proofs.numbers.natural.Given as goal

-- the digits that are left, behind the value so far, write the word's number
abbrev pub invariant-loop-byte : goal.invariant-loop-byte
invariant-loop-byte l = (l.value ≤ l.limit) × (upto l.limit l.word ≡ held l.limit (digits_after l.value (drop l.byte-index l.word)))
