use Rattle.std.proofs.Common.{◌≡◌, take, fold}
use Rattle.seam_rule_lines.specs.Book.{divided}
use Rattle.seam_judge_expected.proofs.entries.tree_after.Given as goal

abbrev pub invariant-loop-entry : goal.invariant-loop-entry
invariant-loop-entry l = l.tree ≡ fold divided l.initial.tree (take l.entry-index l.entries)
