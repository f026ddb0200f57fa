use Rattle.std.proofs.Common.{◌≡◌, ◌++◌}
use Rattle.seam_cell_parts.proofs.entity_set.EntitySet.add_to.Given as goal

abbrev pub invariant-loop-e : goal.invariant-loop-e
invariant-loop-e l = l.row ++ l.e-iterator ≡ l.initial.row ++ l.initial.e-iterator
