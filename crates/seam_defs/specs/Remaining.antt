-- What is still to come of lists that the code goes through.
use Rattle.std.specs.Prelude.{List, map, filter}
use Rattle.std.specs.List.{zip}
use Rattle.seam_value.specs.declared.values.Value.{Value}
use Rattle.seam_defs.specs.declared.types.Property.{Property}
use Rattle.seam_defs.specs.declared.groups.OfGroup.{OfGroup}
use Rattle.seam_defs.specs.declared.props.KeptValues.{KeptValues}
use Rattle.seam_defs.specs.declared.flags.Group.{Group}
use Rattle.seam_defs.specs.Groups.{in_group}
use Rattle.seam_defs.specs.Deeds.{properties_of}
use Rattle.seam_defs.specs.Marks.{kept}

-- the values that are still to come
abbrev pub values_left : KeptValues → List Value
values_left k = kept k.left_out k.values.now

-- the properties that are still to come
abbrev pub properties_left : OfGroup → List Property
properties_left s = properties_of s.properties.now s.group

-- of values beside their properties, those whose properties are in a group
abbrev pub shown_of : Group → List Property → List Value → List Value
shown_of g ps values = map (λ e. e.1) (filter (λ e. in_group e.0.flag g) (zip ps values))
