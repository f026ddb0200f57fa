use Rattle.std.proofs.Common.{take}
use Rattle.seam_words.specs.Words.{IsGap}
use Rattle.seam_accept.proofs.command.is_skipped.Given as goal

abbrev pub invariant-loop-byte : goal.invariant-loop-byte
invariant-loop-byte l = IsGap (take l.byte-index l.line)
