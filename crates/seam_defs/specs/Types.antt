-- Types of entities: how they are numbered, and which are well formed.
use Rattle.std.specs.Prelude.{◌≡◌, ◌≢◌, ℕ, ◌-◌, ◌<◌, ◌≤◌, Bool, true, false, IsTrue, ◌&&◌, ◌||◌, nat_le, nat_lt, ◌==◌, List, [], ◌∷◌}
use Rattle.std.specs.Prelude.{length, map, All, Some, slice_get, slice_index_or, codes}
use Rattle.std.specs.List.{list_all}
use Rattle.std.specs.Ordering.{nat_cmp, is_lt}
use Rattle.std.specs.Cmp.Lexicographic.{slice_cmp}
use Rattle.seam_value.specs.Values.{Fits}
use Rattle.seam_value.specs.declared.types.ValueType.{ValueType}
use Rattle.seam_value.specs.declared.types.ValueType.TheVariants as type
use Rattle.seam_defs.specs.declared.flags.Part.TheVariants as part
use Rattle.seam_defs.specs.declared.types.Property.{Property}
use Rattle.seam_defs.specs.declared.types.Operand.{Operand}
use Rattle.seam_defs.specs.declared.types.Operand.TheVariants.{Arg, Constant}
use Rattle.seam_defs.specs.declared.types.Operation.{Operation}
use Rattle.seam_defs.specs.declared.types.Operation.TheVariants.{Put, Add, Sub}
use Rattle.seam_defs.specs.declared.types.Method.{Method}
use Rattle.seam_defs.specs.declared.types.TypeDef.{TypeDef}
use Rattle.seam_defs.specs.Groups.{in_group, held_by}
use Rattle.seam_defs.specs.declared.limits.TheConstants.{MOST_TYPES, MOST_PROPERTIES, MOST_METHODS, MOST_ARGUMENTS, MOST_OPERATIONS}
use Rattle.seam_defs.specs.declared.limits.TheConstants.{LONGEST_NAME}

-- ---- numbers: a type, a method and a property is numbered by its place

-- what a number means that the definitions do not have: a type without properties and methods, a method that does nothing
abbrev pub no_type : TypeDef
no_type = record { name = []; properties = []; methods = [] }

abbrev pub no_method : Method
no_method = record { name = []; part = part.Cell; exposed = false; args = []; body = [] }

abbrev pub type_of : List TypeDef → ℕ → TypeDef
type_of defs ty = slice_index_or defs ty no_type

abbrev pub method_of : TypeDef → ℕ → Method
method_of t m = slice_index_or t.methods m no_method

-- ---- which definitions are well formed

abbrev pub is_letter : ℕ → Bool
is_letter c = (nat_le 65 c && nat_le c 90) || (nat_le 97 c && nat_le c 122)

abbrev pub is_name_byte : ℕ → Bool
is_name_byte c = is_letter c || (nat_le 48 c && nat_le c 57) || (c == 95)

abbrev pub is_after_letter : List ℕ → Bool
is_after_letter cs = list_all is_name_byte cs && nat_lt (length cs) LONGEST_NAME

-- a name is a letter, and then at most 31 letters, digits or `_`
abbrev pub is_name : List ℕ → Bool
is_name [] = false
is_name (c ∷ cs) = is_letter c && is_after_letter cs

-- a name comes before another one in byte order
abbrev pub is_before : List ℕ → List ℕ → Bool
is_before a b = is_lt (slice_cmp nat_cmp a b)

-- the names are names, in strictly rising byte order
abbrev pub are_rising : List (List ℕ) → Bool
are_rising [] = true
are_rising (n ∷ ns) = is_name n && list_all (is_before n) ns && are_rising ns

-- an operand fits a type: it is an argument of the type, counted from 1, or a value of the type
abbrev pub OperandFits : List ValueType → ValueType → Operand → Type 0
OperandFits args t (Arg k) = (0 < k) × (slice_get args (k - 1) ≡ Some t)
OperandFits args t (Constant v) = Fits v t

-- the property is one of the part, and the operand fits it
abbrev pub WorksOn : List Property → Method → ℕ → Operand → Type 0
WorksOn ps m k a = (p : Property) × (slice_get ps k ≡ Some p) × IsTrue (in_group p.flag (held_by m.part)) × OperandFits m.args p.ty a

-- the property holds numbers
abbrev pub IsNumeric : List Property → ℕ → Type 0
IsNumeric ps k = (p : Property) × (slice_get ps k ≡ Some p) × (p.ty ≢ type.Text)

-- an operation is well typed
abbrev pub IsOperation : List Property → Method → Operation → Type 0
IsOperation ps m (Put k a) = WorksOn ps m k a
IsOperation ps m (Add k a) = WorksOn ps m k a × IsNumeric ps k
IsOperation ps m (Sub k a) = WorksOn ps m k a × IsNumeric ps k

abbrev pub names_of_properties : List Property → List (List ℕ)
names_of_properties ps = map (λ p. p.name) ps

abbrev pub names_of_methods : List Method → List (List ℕ)
names_of_methods ms = map (λ m. m.name) ms

abbrev pub names_of_types : List TypeDef → List (List ℕ)
names_of_types ts = map (λ t. t.name) ts

-- a method of a type is not named as a change of place is, and has at most 8 arguments and 32 operations, which are well
-- typed
pub record IsMethod (ps : List Property) (m : Method) : Type 0 where
  pub not_move : m.name ≢ codes "move"
  pub args : length m.args ≤ MOST_ARGUMENTS
  pub operations : length m.body ≤ MOST_OPERATIONS
  pub body : All (IsOperation ps m) m.body

-- a type has at most 32 properties, whose defaults fit, and at most 32 methods
pub record IsType (t : TypeDef) : Type 0 where
  pub properties : length t.properties ≤ MOST_PROPERTIES
  pub property_names : IsTrue (are_rising (names_of_properties t.properties))
  pub defaults : All (λ p. Fits p.default p.ty) t.properties
  pub methods : length t.methods ≤ MOST_METHODS
  pub method_names : IsTrue (are_rising (names_of_methods t.methods))
  pub bodies : All (IsMethod t.properties) t.methods

-- definitions have at most 64 types
pub record AreDefs (defs : List TypeDef) : Type 0 where
  pub count : length defs ≤ MOST_TYPES
  pub names : IsTrue (are_rising (names_of_types defs))
  pub types : All IsType defs

-- definitions, and beside them the type that other numbers mean
pub record IsDefs (defs : List TypeDef) (none : TypeDef) : Type 0 where
  pub are : AreDefs defs
  pub others : none ≡ no_type
