use Rattle.std.proofs.Common.{◌↔◌}
use Rattle.std.specs.List.{AllZip}
use Rattle.seam_value.specs.Values.{Fits}
use Rattle.seam_defs.specs.Deeds.{IsOfGroup}
use Rattle.seam_defs.specs.Remaining.{properties_left, values_left}
use Rattle.seam_defs.proofs.groups.are_of_group.Given as goal

-- the values are of the group exactly where the rest of them is
abbrev pub invariant-loop-property : goal.invariant-loop-property
invariant-loop-property l = IsOfGroup l.properties l.fn.group l.props
    ↔ AllZip (λ p v. Fits v p.ty) (properties_left l.property-iterator) (values_left l.values)
