use Rattle.std.proofs.Common.{◌≡◌, ◌↔◌}
use Rattle.seam_defs.specs.Remaining.{values_left}
use Rattle.seam_defs.proofs.props.are_same.Given as goal

-- the values are the same exactly where those that are left are
abbrev pub invariant-loop-value : goal.invariant-loop-value
invariant-loop-value l = (values_left l.values ≡ values_left l.fn.others) ↔ (values_left l.value-iterator ≡ values_left l.others)
