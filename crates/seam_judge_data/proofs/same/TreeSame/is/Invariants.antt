use Rattle.std.proofs.Common.{◌≡◌, ℕ, ◌<◌, ◌≤◌}
use Rattle.seam_tree.specs.Division.{cut_number}
use Rattle.seam_judge_data.proofs.same.TreeSame.is.Given as goal

abbrev pub invariant-loop-number : goal.invariant-loop-number
invariant-loop-number l = (k : ℕ) → 1 ≤ k → k < l.number → cut_number l.self k ≡ cut_number l.other k
