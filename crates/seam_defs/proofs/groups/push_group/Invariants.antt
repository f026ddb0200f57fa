use Rattle.std.proofs.Common.{◌≡◌, ◌++◌, length, take}
use Rattle.std.specs.List.{flat_map, zip}
use Rattle.seam_defs.specs.Deeds.{property_text, values_text}
use Rattle.seam_defs.specs.Remaining.{properties_left, values_left}
use Rattle.seam_defs.proofs.groups.push_group.Given as goal

abbrev pub invariant-loop-property : goal.invariant-loop-property
invariant-loop-property l = record {
  text : l.out.items
      ++ flat_map property_text (zip (properties_left l.property-iterator.a) (values_left l.property-iterator.b))
      ≡ l.initial.out.items ++ values_text l.properties l.fn.group l.props;
  kept : take (length l.initial.out.items) l.out.items ≡ l.initial.out.items;
}
