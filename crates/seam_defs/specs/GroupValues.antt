-- The values of a group of properties, and those of them that are in another group.
use Rattle.std.specs.Prelude.{List, map, filter}
use Rattle.std.specs.List.{AllZip, zip}
use Rattle.seam_value.specs.Values.{Fits}
use Rattle.seam_value.specs.declared.values.Value.{Value}
use Rattle.seam_defs.specs.declared.flags.Group.{Group}
use Rattle.seam_defs.specs.declared.types.Property.{Property}
use Rattle.seam_defs.specs.Groups.{in_group}

-- the properties of a group, in name order
abbrev pub properties_of : List Property → Group → List Property
properties_of ps g = filter (λ p. in_group p.flag g) ps

-- the values are those of a group: one for each of its properties, in name order, that fits its type
abbrev pub IsOfGroup : List Property → Group → List Value → Type 0
IsOfGroup ps g values = AllZip (λ p v. Fits v p.ty) (properties_of ps g) values

-- the values that a new entity has
abbrev pub start_values : List Property → Group → List Value
start_values ps g = map (λ p. p.default) (properties_of ps g)

-- a group's values projected to another group: those whose properties are in it too
abbrev pub projected : List Property → Group → Group → List Value → List Value
projected ps held g values = map (λ e. e.1) (filter (λ e. in_group e.0.flag g) (zip (properties_of ps held) values))
