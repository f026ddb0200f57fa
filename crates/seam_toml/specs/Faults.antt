-- What is at fault in the values of a header.
use Rattle.std.specs.Prelude.{◌≡◌, ◌≢◌, ◌⊎◌, ⊤, ℕ, ◌+◌, ◌<◌, pos, IsTrue, IsSome, IsNone, List, codes, Option, Some, None}
use Rattle.toml.specs.Data.{Data, string, integer, array}
use Rattle.toml.specs.Data.{table, Items, no_items, item, Members, no_members, member, get_member, as_str, as_integer, as_bool, as_table}
use Rattle.seam_value.specs.Types.{name_of}
use Rattle.seam_value.specs.Values.{Fits}
use Rattle.seam_value.specs.declared.types.ValueType.{ValueType}
use Rattle.seam_value.specs.declared.values.Value.TheVariants.{Number, Text}
use Rattle.seam_defs.specs.declared.flags.Flag.{Flag}
use Rattle.seam_defs.specs.declared.flags.Part.{Part}
use Rattle.seam_defs.specs.declared.limits.TheConstants.{MOST_TYPES, MOST_PROPERTIES, MOST_METHODS, MOST_ARGUMENTS, MOST_OPERATIONS}
use Rattle.seam_defs.specs.declared.settings.Settings.{Settings}
use Rattle.seam_defs.specs.Names.{flag_name, part_name}
use Rattle.seam_defs.specs.Settings.{GhostsReach}
use Rattle.seam_toml.specs.declared.roles.Role.{Role}
use Rattle.seam_toml.specs.declared.roles.Role.TheVariants as role
use Rattle.seam_toml.specs.declared.faults.Fault.{Fault}
use Rattle.seam_toml.specs.declared.faults.Fault.TheVariants.{NoSuchKey, BadType, BadFlag, BadDefault, BadBody, TooManyNames, GhostTooNear}
use Rattle.seam_toml.specs.Settings.{number_of, Sets}
use Rattle.seam_toml.specs.Roles.{role_under, is_table}
use Rattle.seam_defs.specs.declared.types.Property.{Property}
use Rattle.seam_defs.specs.declared.types.Operation.{Operation}
use Rattle.seam_toml.specs.Tables.{EachUnder}
use Rattle.seam_toml.specs.Operations.{IsOperationText}
use Rattle.seam_toml.specs.Definitions.{HasType, HasPart, HasArguments, DefinesProperty}

-- ---- keys

-- the table has a key that it may not have
abbrev pub HasStrangeKey : Role → Members → Type 0
HasStrangeKey r no_members = ⊥
HasStrangeKey r (member key d ms) = IsNone (role_under r key) ⊎ HasStrangeKey r ms

abbrev pub Lacks : List ℕ → Members → Type 0
Lacks key ms = get_member key ms ≡ None

-- the table lacks a key that it has to have
abbrev pub LacksKey : Role → Members → Type 0
LacksKey role.Property ms = Lacks (codes "type") ms ⊎ (Lacks (codes "flag") ms ⊎ Lacks (codes "default") ms)
LacksKey role.Method ms = Lacks (codes "part") ms
LacksKey r ms = ⊥

-- ---- kinds of values

-- a text that names a type of values
abbrev pub IsTypeName : Data → Type 0
IsTypeName (string s) = (t : ValueType) × (name_of t ≡ s)
IsTypeName d = ⊥

-- each item is such
abbrev pub AreTypeNames : Items → Type 0
AreTypeNames no_items = ⊤
AreTypeNames (item d ds) = IsTypeName d × AreTypeNames ds

-- each item is a text
abbrev pub AreTexts : Items → Type 0
AreTexts no_items = ⊤
AreTexts (item d ds) = IsSome (as_str d) × AreTexts ds

-- a text that names a part
abbrev pub IsPartName : Data → Type 0
IsPartName (string s) = (p : Part) × (part_name p ≡ s)
IsPartName d = ⊥

abbrev pub IsListOf : (Items → Type 0) → Data → Type 0
IsListOf Are (array ds) = Are ds
IsListOf Are d = ⊥

-- the value is of the kind that is wanted where it is
abbrev pub IsOfKind : Role → Data → Type 0
IsOfKind role.Version d = as_integer d ≡ Some (pos 1)
IsOfKind (role.Setting s) d = IsSome (number_of s d)
IsOfKind role.TypeName d = IsTypeName d
IsOfKind role.Flag d = IsSome (as_str d)
IsOfKind role.Default d = IsSome (as_integer d) ⊎ IsSome (as_str d)
IsOfKind role.Part d = IsPartName d
IsOfKind role.Exposed d = IsSome (as_bool d)
IsOfKind role.Arguments d = IsListOf AreTypeNames d
IsOfKind role.Body d = IsListOf AreTexts d
IsOfKind r d = IsSome (as_table d)

-- ---- defaults

-- a whole number or a text that fits a type of values
abbrev pub FitsType : ValueType → Data → Type 0
FitsType t (integer z) = Fits (Number z) t
FitsType t (string s) = Fits (Text s) t
FitsType t d = ⊥

-- ---- bodies

-- the item is a text that says no operation
abbrev pub IsBadText : List Property → Part → List ValueType → Data → Type 0
IsBadText ps part args (string text) = (op : Operation) → ¬ (IsOperationText ps part args text op)
IsBadText ps part args d = ⊥

abbrev pub HasBadText : List Property → Part → List ValueType → Items → Type 0
HasBadText ps part args no_items = ⊥
HasBadText ps part args (item d ds) = IsBadText ps part args d ⊎ HasBadText ps part args ds

abbrev pub AreBadTexts : List Property → Part → List ValueType → Option Data → Type 0
AreBadTexts ps part args (Some (array ds)) = HasBadText ps part args ds
AreBadTexts ps part args d = ⊥

-- the table of a method has a part and arguments, and a text in its body that says no operation with them
pub record HasBadBody (ps : List Property) (ms : Members) : Type 0 where
  pub part : Part
  pub has_part : HasPart ms part
  pub args : List ValueType
  pub has_arguments : HasArguments ms args
  pub bad : AreBadTexts ps part args (get_member (codes "body") ms)

abbrev pub IsBadMethod : List Property → Data → Type 0
IsBadMethod ps (table ms) = HasBadBody ps ms
IsBadMethod ps d = ⊥

abbrev pub HasBadMethod : List Property → Members → Type 0
HasBadMethod ps no_members = ⊥
HasBadMethod ps (member key d ms) = IsBadMethod ps d ⊎ HasBadMethod ps ms

abbrev pub AreBadMethods : List Property → Option Data → Type 0
AreBadMethods ps (Some (table ms)) = HasBadMethod ps ms
AreBadMethods ps d = ⊥

-- the table of a type defines properties, and has a method with a body that is bad with them
pub record HasBadBodies (ms : Members) : Type 0 where
  pub ps : List Property
  pub properties : EachUnder DefinesProperty (get_member (codes "properties") ms) ps
  pub bad : AreBadMethods ps (get_member (codes "methods") ms)

-- ---- limits

-- how many members or items a value has
abbrev pub count : Members → ℕ
count no_members = 0
count (member key d ms) = 1 + count ms

abbrev pub count_items : Items → ℕ
count_items no_items = 0
count_items (item d ds) = 1 + count_items ds

abbrev pub size_of : Data → ℕ
size_of (table ms) = count ms
size_of (array ds) = count_items ds
size_of d = 0

-- there are more of what a limit is on than may be
abbrev pub AreTooMany : Role → Data → Type 0
AreTooMany role.Types d = MOST_TYPES < size_of d
AreTooMany role.Properties d = MOST_PROPERTIES < size_of d
AreTooMany role.Methods d = MOST_METHODS < size_of d
AreTooMany role.Arguments d = MOST_ARGUMENTS < size_of d
AreTooMany role.Body d = MOST_OPERATIONS < size_of d
AreTooMany r d = ⊥

-- ---- a fault of a value

-- The value itself is at fault: a table where one has to be has a key that it may not have, or lacks one that it has to have; it is of
-- another kind; a text where a flag has to be names none; a property's default does not fit its type; a type has a bad body; there are too
-- many; settings are such that ghosts do not reach far enough.
abbrev pub IsAtFault : Fault → Role → Data → Type 0
IsAtFault NoSuchKey r (table ms) = IsTrue (is_table r) × (HasStrangeKey r ms ⊎ LacksKey r ms)
IsAtFault BadType r d = ¬ (IsOfKind r d)
IsAtFault BadFlag role.Flag (string s) = (f : Flag) → flag_name f ≢ s
IsAtFault BadDefault role.Property (table ms) =
    (t : ValueType) × (d : Data) × HasType ms t × (get_member (codes "default") ms ≡ Some d) × ¬ (FitsType t d)
IsAtFault BadBody role.Type (table ms) = HasBadBodies ms
IsAtFault TooManyNames r d = AreTooMany r d
IsAtFault GhostTooNear role.Settings (table ms) = (s : Settings) × Sets ms s × ¬ (GhostsReach s)
IsAtFault f r d = ⊥

-- ---- a fault anywhere

-- The value is at fault, or one below it, under keys that the tables there may have.
abbrev mutual
  pub HasFault : Fault → Role → Data → Type 0
  HasFault f r (table ms) = IsAtFault f r (table ms) ⊎ HasFaultBelow f r ms
  HasFault f r d = IsAtFault f r d

  pub HasFaultBelow : Fault → Role → Members → Type 0
  HasFaultBelow f r no_members = ⊥
  HasFaultBelow f r (member key d ms) = ((below : Role) × (role_under r key ≡ Some below) × HasFault f below d) ⊎ HasFaultBelow f r ms

-- ---- the first fault of a header

-- the place of a fault in the order in which faults are sought
abbrev pub order : Fault → ℕ
order NoSuchKey = 0
order BadType = 1
order BadFlag = 2
order BadDefault = 3
order BadBody = 4
order TooManyNames = 5
order GhostTooNear = 6

-- the top table of a header, which has these members, is itself at fault
abbrev pub TopIsAtFault : Members → Fault → Type 0
TopIsAtFault ms f = IsAtFault f role.Header (table ms)

-- the header, whose top table has these members, has the fault
abbrev pub HeaderHas : Members → Fault → Type 0
HeaderHas ms f = HasFault f role.Header (table ms)

-- the header has the fault, and none that is sought before it
pub record IsFirstFault (ms : Members) (f : Fault) : Type 0 where
  pub here : HeaderHas ms f
  pub before : (g : Fault) → order g < order f → ¬ (HeaderHas ms g)
