-- What the tables of a header define.
use Rattle.std.specs.Prelude.{◌≡◌, ℕ, ◌≤◌, Bool, false, IsTrue, List, length, codes, Option, Some, None}
use Rattle.toml.specs.Data.{Data, string, integer, table, Members, get_member, as_bool}
use Rattle.seam_value.specs.Types.{name_of}
use Rattle.seam_value.specs.Values.{Fits}
use Rattle.seam_value.specs.declared.types.ValueType.{ValueType}
use Rattle.seam_value.specs.declared.values.Value.{Value}
use Rattle.seam_value.specs.declared.values.Value.TheVariants.{Number, Text}
use Rattle.seam_defs.specs.declared.flags.Flag.{Flag}
use Rattle.seam_defs.specs.declared.flags.Part.{Part}
use Rattle.seam_defs.specs.declared.types.Property.{Property}
use Rattle.seam_defs.specs.declared.types.Operation.{Operation}
use Rattle.seam_defs.specs.declared.types.Method.{Method}
use Rattle.seam_defs.specs.declared.types.TypeDef.{TypeDef}
use Rattle.seam_defs.specs.Names.{flag_name, part_name}
use Rattle.seam_defs.specs.Types.{is_name}
use Rattle.seam_defs.specs.Builtin.{builtin}
use Rattle.seam_defs.specs.declared.limits.TheConstants.{MOST_TYPES, MOST_PROPERTIES, MOST_METHODS, MOST_ARGUMENTS, MOST_OPERATIONS}
use Rattle.seam_toml.specs.Tables.{Each, EachUnder, EachItemUnder}
use Rattle.seam_toml.specs.Operations.{IsOperationText}
use Rattle.seam_toml.specs.Roles.{is_method_name}

-- ---- properties

-- what is under the key `type` names this type of values
abbrev pub HasType : Members → ValueType → Type 0
HasType ms t = get_member (codes "type") ms ≡ Some (string (name_of t))

-- what is under the key `flag` names this flag
abbrev pub HasFlag : Members → Flag → Type 0
HasFlag ms f = get_member (codes "flag") ms ≡ Some (string (flag_name f))

-- a value as TOML has it: a whole number, or a text
abbrev pub data_of : Value → Data
data_of (Number z) = integer z
data_of (Text s) = string s

-- the value under a name defines the property: a table of its type, its flag, and its default, which fits the type
pub record DefinesProperty (key : List ℕ) (d : Data) (p : Property) : Type 0 where
  pub ms : Members
  pub is : d ≡ table ms
  pub name : p.name ≡ key
  pub named : IsTrue (is_name key)
  pub ty : HasType ms p.ty
  pub flag : HasFlag ms p.flag
  pub default : get_member (codes "default") ms ≡ Some (data_of p.default)
  pub fits : Fits p.default p.ty

-- ---- methods

-- the text names the type of values
abbrev pub NamesType : Data → ValueType → Type 0
NamesType d t = d ≡ string (name_of t)

-- what is under the key `part` names this part
abbrev pub HasPart : Members → Part → Type 0
HasPart ms p = get_member (codes "part") ms ≡ Some (string (part_name p))

-- whether clients may call the method: they may not where this is missing
abbrev pub exposed_or_not : Option Data → Option Bool
exposed_or_not None = Some false
exposed_or_not (Some d) = as_bool d

-- what is under the key `args` names the types of a method's arguments
abbrev pub HasArguments : Members → List ValueType → Type 0
HasArguments ms args = EachItemUnder NamesType (get_member (codes "args") ms) args

-- the item is a text that says the operation
abbrev pub IsOperationData : List Property → Part → List ValueType → Data → Operation → Type 0
IsOperationData ps part args (string text) op = IsOperationText ps part args text op
IsOperationData ps part args d op = ⊥

-- the value under a name defines the method, in a type with these properties
pub record DefinesMethod (ps : List Property) (key : List ℕ) (d : Data) (m : Method) : Type 0 where
  pub ms : Members
  pub is : d ≡ table ms
  pub name : m.name ≡ key
  pub named : IsTrue (is_method_name key)
  pub part : HasPart ms m.part
  pub exposed : exposed_or_not (get_member (codes "exposed") ms) ≡ Some m.exposed
  pub args : HasArguments ms m.args
  pub few_arguments : length m.args ≤ MOST_ARGUMENTS
  pub body : EachItemUnder (IsOperationData ps m.part m.args) (get_member (codes "body") ms) m.body
  pub few_operations : length m.body ≤ MOST_OPERATIONS

-- ---- types

-- the value under a name defines the type
pub record DefinesType (key : List ℕ) (d : Data) (t : TypeDef) : Type 0 where
  pub ms : Members
  pub is : d ≡ table ms
  pub name : t.name ≡ key
  pub named : IsTrue (is_name key)
  pub properties : EachUnder DefinesProperty (get_member (codes "properties") ms) t.properties
  pub few_properties : length t.properties ≤ MOST_PROPERTIES
  pub methods : EachUnder (DefinesMethod t.properties) (get_member (codes "methods") ms) t.methods
  pub few_methods : length t.methods ≤ MOST_METHODS

-- what is under the key `type` of a header defines the types: where it is missing, they are the built-in ones
abbrev pub DefinesTypes : Option Data → List TypeDef → Type 0
DefinesTypes None ts = ts ≡ builtin
DefinesTypes (Some (table ms)) ts = Each DefinesType ms ts × (length ts ≤ MOST_TYPES)
DefinesTypes (Some d) ts = ⊥
