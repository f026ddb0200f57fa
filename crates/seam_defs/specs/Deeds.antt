-- Groups of values, and what a deed does to a state.
use Rattle.std.specs.Prelude.{◌≡◌, ⊤, ℕ, ℤ, pos, ◌-◌, ◌<◌, ◌+ℤ◌, ◌-ℤ◌, List, ◌∷◌, ◌++◌, length, map, fold, slice_index_or}
use Rattle.std.specs.Prelude.{slice_set, take}
use Rattle.std.specs.List.{AllZip, zip, flat_map}
use Rattle.std.specs.Option.{unwrap_or}
use Rattle.std.specs.Int.{int_min, int_max}
use Rattle.seam_value.specs.Types.{least, greatest}
use Rattle.seam_value.specs.Values.{Fits, text_of}
use Rattle.seam_value.specs.declared.types.ValueType.{ValueType}
use Rattle.seam_value.specs.declared.values.Value.{Value}
use Rattle.seam_value.specs.declared.values.Value.TheVariants.{Number, Text}
use Rattle.seam_defs.specs.declared.flags.Group.{Group}
use Rattle.seam_defs.specs.declared.flags.Group.TheVariants as group
use Rattle.seam_defs.specs.declared.types.Property.{Property}
use Rattle.seam_defs.specs.declared.types.Operand.{Operand}
use Rattle.seam_defs.specs.declared.types.Operand.TheVariants.{Arg, Constant}
use Rattle.seam_defs.specs.declared.types.Operation.{Operation}
use Rattle.seam_defs.specs.declared.types.Operation.TheVariants.{Put, Add, Sub}
use Rattle.seam_defs.specs.declared.types.TypeDef.{TypeDef}
use Rattle.seam_defs.specs.declared.states.Deed.{Deed}
use Rattle.seam_defs.specs.declared.states.Deed.TheVariants.{Move, Method}
use Rattle.seam_defs.specs.declared.states.State.{State}
use Rattle.seam_defs.specs.declared.states.Later.{Later}
use Rattle.seam_defs.specs.Groups.{held_by}
pub use Rattle.seam_defs.specs.GroupValues.{properties_of, IsOfGroup, start_values, projected}
use Rattle.seam_defs.specs.declared.flags.Part.{Part}
use Rattle.seam_defs.specs.declared.flags.Part.TheVariants as part
use Rattle.seam_value.specs.declared.types.ValueType.TheVariants as type
use Rattle.seam_defs.specs.Types.{method_of}

-- ---- groups

-- the text of a property: a space, the name, `=` and the value's spelling
abbrev pub property_text : Property × Value → List ℕ
property_text e = 32 ∷ e.0.name ++ 61 ∷ text_of e.1

-- the text of a group's values, in name order
abbrev pub values_text : List Property → Group → List Value → List ℕ
values_text ps g values = flat_map property_text (zip (properties_of ps g) values)

-- ---- one deed

-- the arguments are those that a method takes: as many, and each of its type
abbrev pub AreArgsOf : List ValueType → List Value → Type 0
AreArgsOf types args = AllZip (λ t v. Fits v t) types args

-- the deed is one that the type can do: a move, or one of its methods with the arguments that it takes
abbrev pub FitsDeed : TypeDef → Deed → Type 0
FitsDeed t (Move p) = ⊤
FitsDeed t (Method m args) = (m < length t.methods) × AreArgsOf (method_of t m).args args

-- the nearest number of a number type
abbrev pub nearest : ValueType → ℤ → ℤ
nearest t z = int_max (int_min z (greatest t)) (least t)

-- a value as a number (well-typed operations never ask it of a text)
abbrev pub number_of : Value → ℤ
number_of (Number z) = z
number_of (Text bytes) = pos 0

-- the value of an operand (a well-typed one has its argument)
abbrev pub operand_value : List Value → Operand → Value
operand_value args (Arg k) = slice_index_or args (k - 1) (Number (pos 0))
operand_value args (Constant v) = v

-- the number of the property that an operation is on
abbrev pub target : Operation → ℕ
target (Put k a) = k
target (Add k a) = k
target (Sub k a) = k

-- the operand of an operation
abbrev pub operand : Operation → Operand
operand (Put k a) = a
operand (Add k a) = a
operand (Sub k a) = a

-- the value that an operation with the operand's value `by` gives a property of type `t` that held the number `old`
abbrev pub operated : Operation → ValueType → ℤ → Value → Value
operated (Put k a) t old by = by
operated (Add k a) t old by = Number (nearest t (old +ℤ number_of by))
operated (Sub k a) t old by = Number (nearest t (old -ℤ number_of by))

-- the place of a property's value among those of its group: as many as the group's properties before it
abbrev pub place_of : List Property → Group → ℕ → ℕ
place_of ps g k = length (properties_of (take k ps) g)

-- the type of a property (a well-typed operation never asks for a property that the type does not have)
abbrev pub type_at : List Property → ℕ → ValueType
type_at ps k = slice_index_or (map (λ p. p.ty) ps) k type.Text

-- the value at a place of a group (a well-typed operation never asks for a place that the group does not have)
abbrev pub value_at : List Value → ℕ → Value
value_at values place = slice_index_or values place (Number (pos 0))

-- a group's values after an operation whose operand has the value `by`: the value of its property is replaced
abbrev pub after_with : List Property → Group → List Value → Operation → Value → List Value
after_with ps g values op by =
    let place = place_of ps g (target op) in
    slice_set values place (operated op (type_at ps (target op)) (number_of (value_at values place)) by)

-- a group's values after an operation of a body that was called with these arguments
abbrev pub after_operation : List Property → Group → List Value → List Value → Operation → List Value
after_operation ps g args values op = after_with ps g values op (operand_value args (operand op))

-- a group's values after a body, whose operations run from left to right
abbrev pub after_body : List Property → Group → List Value → List Operation → List Value → List Value
after_body ps g args body values = fold (λ vs op. after_operation ps g args vs op) values body

-- the state after a deed: a move sets the position alone, a method runs its body on the values of its part
abbrev pub after : TypeDef → State → Deed → State
after t s (Move p) = record { pos = p; props = s.props }
after t s (Method m args) =
    record { pos = s.pos; props = after_body t.properties (held_by (method_of t m).part) args (method_of t m).body s.props }

-- a state with what a deed left of it: other values only where it says so
abbrev pub with_later : State → Later → State
with_later s l = record { pos = l.pos; props = unwrap_or l.props s.props }

-- the part that a deed is done on: a move is for the cell part
abbrev pub part_of_deed : TypeDef → Deed → Part
part_of_deed t (Move p) = part.Cell
part_of_deed t (Method m args) = (method_of t m).part

-- ---- what is held where

-- what a ghost holds of a real's state
abbrev pub ghost_of : List Property → State → State
ghost_of ps s = record { pos = s.pos; props = projected ps group.Real group.Ghost s.props }

-- what the own client is shown of the cell part
abbrev pub own_of : List Property → State → State
own_of ps s = record { pos = s.pos; props = projected ps group.Real group.Own s.props }

-- what other clients are shown of it
abbrev pub other_of : List Property → State → State
other_of ps s = record { pos = s.pos; props = projected ps group.Real group.Other s.props }

-- what the own client is shown of the base part
abbrev pub client_of : List Property → State → List Value
client_of ps s = projected ps group.Base group.BaseClient s.props

-- what others may see of a part is as it was: of a cell part what a ghost holds, of a base part what its client is shown
abbrev pub SameShown : List Property → Part → State → State → Type 0
SameShown ps part.Cell old new = ghost_of ps old ≡ ghost_of ps new
SameShown ps part.Base old new = client_of ps old ≡ client_of ps new

-- the text of one group's values, of those of a group that holds them
abbrev pub text_of_projected : List Property → Group → Group → State → List ℕ
text_of_projected ps held g s = values_text ps g (projected ps held g s.props)
