-- Tests of the relations on values, groups and deeds, for definitions that are functions: each is true exactly where its
-- relation holds, as the public calls that answer it say.
use Rattle.std.specs.Prelude.{Bool, true, false, not, ◌&&◌, ◌==◌, nat_lt, nat_le, int_le, List, length, map}
use Rattle.std.specs.Ordering.{int_eq}
use Rattle.std.specs.Cmp.Lexicographic.{pointwise}
use Rattle.std.specs.Str.{bytes_eq, is_utf8}
use Rattle.seam_value.specs.declared.types.ValueType.{ValueType}
use Rattle.seam_value.specs.declared.types.ValueType.TheVariants as type
use Rattle.seam_value.specs.declared.values.Value.{Value}
use Rattle.seam_value.specs.declared.values.Value.TheVariants.{Number, Text}
use Rattle.seam_value.specs.Types.{least, greatest}
use Rattle.seam_defs.specs.declared.flags.Part.{Part}
use Rattle.seam_defs.specs.declared.flags.Part.TheVariants as part
use Rattle.seam_defs.specs.declared.flags.Group.{Group}
use Rattle.seam_defs.specs.declared.types.Property.{Property}
use Rattle.seam_defs.specs.declared.types.TypeDef.{TypeDef}
use Rattle.seam_defs.specs.declared.states.State.{State}
use Rattle.seam_defs.specs.declared.states.Deed.{Deed}
use Rattle.seam_defs.specs.declared.states.Deed.TheVariants.{Move, Method}
use Rattle.seam_defs.specs.Types.{method_of}
use Rattle.seam_defs.specs.Deeds.{properties_of, ghost_of, client_of, after, part_of_deed}

abbrev pub is_text : ValueType → Bool
is_text type.Text = true
is_text t = false

-- whether a value fits a type
abbrev pub fits_value : ValueType → Value → Bool
fits_value t (Number z) = not (is_text t) && int_le (least t) z && int_le z (greatest t)
fits_value t (Text bytes) = is_text t && is_utf8 bytes && nat_le (length bytes) 255

-- whether the values are as many as the types, and each is of its type
abbrev pub fit_values : List ValueType → List Value → Bool
fit_values types values = pointwise fits_value types values

-- whether the values are those of a group
abbrev pub are_of_group : List Property → Group → List Value → Bool
are_of_group ps g values = fit_values (map (λ p. p.ty) (properties_of ps g)) values

-- whether the type can do a deed
abbrev pub fits_deed : TypeDef → Deed → Bool
fits_deed t (Move p) = true
fits_deed t (Method m args) = nat_lt m (length t.methods) && fit_values (method_of t m).args args

-- whether two parts are the same
abbrev pub same_part : Part → Part → Bool
same_part part.Cell part.Cell = true
same_part part.Base part.Base = true
same_part part.Cell part.Base = false
same_part part.Base part.Cell = false

-- whether two values are the same
abbrev pub same_value : Value → Value → Bool
same_value (Number a) (Number b) = int_eq a b
same_value (Number a) (Text b) = false
same_value (Text a) (Number b) = false
same_value (Text a) (Text b) = bytes_eq a b

abbrev pub same_values : List Value → List Value → Bool
same_values a b = pointwise same_value a b

-- whether two states are the same
abbrev pub same_state : State → State → Bool
same_state a b = (a.pos.x == b.pos.x) && (a.pos.z == b.pos.z) && same_values a.props b.props

-- whether what others may see of a part is the same
abbrev pub same_shown : List Property → Part → State → State → Bool
same_shown ps part.Cell old new = same_state (ghost_of ps old) (ghost_of ps new)
same_shown ps part.Base old new = same_values (client_of ps old) (client_of ps new)

-- whether a deed changes what others may see of the part that it is done on
abbrev pub changes : TypeDef → State → Deed → Bool
changes t s d = not (same_shown t.properties (part_of_deed t d) s (after t s d))
