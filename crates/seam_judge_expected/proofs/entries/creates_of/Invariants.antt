use Rattle.std.proofs.Common.{◌≡◌, take}
use Rattle.seam_rule_lines.specs.Book.{creates_of}
use Rattle.seam_judge_expected.proofs.entries.creates_of.Given as goal

abbrev pub invariant-loop-entry : goal.invariant-loop-entry
invariant-loop-entry l = l.creates.items ≡ creates_of (take l.entry-index l.entries)
