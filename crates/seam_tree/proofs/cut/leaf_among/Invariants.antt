use Rattle.std.proofs.Common.{◌≡◌, ℕ}
use Rattle.seam_tree.specs.Division.{leaf_after}
use Rattle.seam_tree.proofs.cut.leaf_among.Given as goal

abbrev pub invariant-loop-made : goal.invariant-loop-made
invariant-loop-made l = (size : ℕ) → l.leaf ≡ leaf_after (record { size = size; cuts = l.cuts }) l.made l.p
