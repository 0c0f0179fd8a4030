use Rattle.std.proofs.Common.{take}
use Rattle.std.specs.Fmt.{HasWritten, IsPlainFormatter}
use Rattle.wording.specs.Wordings.{codes_text}
use Rattle.wording.proofs.row_texts.CodesDisplay.fmt.Given as goal

-- the codes so far are written
abbrev pub invariant-loop-byte : goal.invariant-loop-byte
invariant-loop-byte g l = IsPlainFormatter l.fn.f → HasWritten g.W.Write.write_str_gives l.fn.f (codes_text (take l.byte-index l.self.0.now)) l.f
