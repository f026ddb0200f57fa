use Rattle.std.proofs.Common.{◌≡◌, ◌++◌}
use Rattle.seam_defs.specs.Deeds.{projected}
use Rattle.seam_defs.specs.Remaining.{properties_left, values_left, shown_of}
use Rattle.seam_defs.proofs.props.copy_shown.Given as goal

abbrev pub invariant-loop-property : goal.invariant-loop-property
invariant-loop-property l =
    l.copies.items ++ shown_of l.group (properties_left l.property-iterator.a) (values_left l.property-iterator.b)
    ≡ projected l.properties l.fn.held l.group l.props
