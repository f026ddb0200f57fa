-- What of a group's values is not in another group, as it is kept beside the properties.
use Rattle.std.specs.Prelude.{◌≡◌, List, length}
use Rattle.seam_value.specs.declared.values.Value.{Value}
use Rattle.seam_defs.specs.declared.flags.Group.{Group}
use Rattle.seam_defs.specs.declared.property_list.Hidden.{Hidden}
use Rattle.seam_defs.specs.declared.types.Property.{Property}
use Rattle.seam_defs.specs.GroupValues.{projected}
use Rattle.seam_defs.specs.Marks.{kept}

-- of so many values of group `held`, the digits leave out those that are not in the group
abbrev pub Hides : List Property → Group → Group → Hidden → Type 0
Hides ps held g h = (values : List Value) → length values ≡ h.count → kept h.left_out values ≡ projected ps held g values
