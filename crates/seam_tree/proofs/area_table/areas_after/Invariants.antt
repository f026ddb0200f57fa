use Rattle.seam_tree.proofs.Filled.{IsFilled}
use Rattle.seam_tree.proofs.area_table.areas_after.Given as goal

abbrev pub invariant-loop-n : goal.invariant-loop-n
invariant-loop-n l = IsFilled (record { size = l.size; cuts = l.cuts }) l.n l.areas
