use Rattle.std.proofs.Common.{◌≡◌, take}
use Rattle.seam_defs.proofs.copying.copy_properties.Given as goal

abbrev pub invariant-loop-property : goal.invariant-loop-property
invariant-loop-property l = l.copies.items ≡ take l.property-index l.properties
