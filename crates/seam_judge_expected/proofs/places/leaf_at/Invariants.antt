use Rattle.std.proofs.Common.{◌≡◌, ◌<◌, ◌-◌}
use Rattle.seam_tree.specs.Division.{leaf_after}
use Rattle.seam_judge_expected.proofs.places.leaf_at.Given as goal

abbrev pub invariant-loop-b : goal.invariant-loop-b
invariant-loop-b l = (l.leaf ≡ leaf_after l.tree (l.b - 1) l.pos) × (l.leaf < l.b)
