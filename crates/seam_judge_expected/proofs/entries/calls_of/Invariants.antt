use Rattle.std.proofs.Common.{◌≡◌, take}
use Rattle.seam_rule_lines.specs.Book.{calls_of}
use Rattle.seam_judge_expected.proofs.entries.calls_of.Given as goal

abbrev pub invariant-loop-entry : goal.invariant-loop-entry
invariant-loop-entry l = l.calls.items ≡ calls_of (take l.entry-index l.entries)
