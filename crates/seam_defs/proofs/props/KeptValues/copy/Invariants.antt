use Rattle.std.proofs.Common.{◌≡◌, ◌++◌}
use Rattle.seam_defs.specs.Remaining.{values_left}
use Rattle.seam_defs.proofs.props.KeptValues.copy.Given as goal

abbrev pub invariant-loop-value : goal.invariant-loop-value
invariant-loop-value l = l.copies.items ++ values_left l.value-iterator ≡ values_left l.self
