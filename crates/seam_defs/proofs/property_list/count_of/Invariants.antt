use Rattle.std.proofs.Common.{◌≤◌}
use Rattle.seam_defs.proofs.property_list.count_of.Given as goal

abbrev pub invariant-loop-property : goal.invariant-loop-property
invariant-loop-property l = l.count ≤ l.property-index
