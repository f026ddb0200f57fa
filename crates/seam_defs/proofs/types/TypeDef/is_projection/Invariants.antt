use Rattle.std.proofs.Common.{◌≡◌, ◌↔◌}
use Rattle.seam_defs.specs.Deeds.{projected}
use Rattle.seam_defs.specs.Remaining.{properties_left, values_left, shown_of}
use Rattle.seam_defs.proofs.types.TypeDef.is_projection.Given as goal

-- the values are projected exactly where the rest of them is
abbrev pub invariant-loop-property : goal.invariant-loop-property
invariant-loop-property l = (l.projection ≡ projected l.self.properties l.fn.held l.group l.props)
    ↔ (values_left l.copies ≡ shown_of l.group (properties_left l.property-iterator.a) (values_left l.property-iterator.b))
