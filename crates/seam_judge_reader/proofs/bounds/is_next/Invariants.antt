use Rattle.std.proofs.Common.{ℕ, ◌<◌, ◌≤◌}
use Rattle.seam_judge_reader.specs.Cuts.{IsSameCut}
use Rattle.seam_judge_reader.proofs.bounds.is_next.Given as goal

abbrev pub invariant-loop-number : goal.invariant-loop-number
invariant-loop-number l = (k : ℕ) → 1 ≤ k → k < l.number → IsSameCut l.before l.tree k
