-- The types of a world whose header defines none: an avatar and a chest.
use Rattle.std.specs.Prelude.{ℕ, pos, Bool, true, false, List, [], ◌∷◌, codes}
use Rattle.std.specs.List.{position_or_len}
use Rattle.std.specs.Str.{bytes_eq}
use Rattle.seam_value.specs.declared.types.ValueType.{ValueType}
use Rattle.seam_value.specs.declared.types.ValueType.TheVariants as type
use Rattle.seam_value.specs.declared.values.Value.{Value}
use Rattle.seam_value.specs.declared.values.Value.TheVariants.{Number, Text}
use Rattle.seam_defs.specs.declared.flags.Flag.{Flag}
use Rattle.seam_defs.specs.declared.flags.Flag.TheVariants as flag
use Rattle.seam_defs.specs.declared.flags.Part.{Part}
use Rattle.seam_defs.specs.declared.flags.Part.TheVariants as part
use Rattle.seam_defs.specs.declared.types.Property.{Property}
use Rattle.seam_defs.specs.declared.types.Operand.TheVariants.{Arg, Constant}
use Rattle.seam_defs.specs.declared.types.Operation.{Operation}
use Rattle.seam_defs.specs.declared.types.Operation.TheVariants.{Put, Add, Sub}
use Rattle.seam_defs.specs.declared.types.Method.{Method}
use Rattle.seam_defs.specs.declared.types.TypeDef.{TypeDef}

abbrev number : ℕ → Value
number n = Number (pos n)

abbrev property : List ℕ → ValueType → Flag → Value → Property
property name ty flag default = record { name = name; ty = ty; flag = flag; default = default }

abbrev method : List ℕ → Part → Bool → List ValueType → List Operation → Method
method name part exposed args body = record { name = name; part = part; exposed = exposed; args = args; body = body }

abbrev pub avatar_properties : List Property
avatar_properties =
    property (codes "gold") type.Uint32 flag.Base (number 0) ∷
    property (codes "hp") type.Int32 flag.AllClients (number 100) ∷
    property (codes "mana") type.Uint16 flag.CellPublicAndOwn (number 50) ∷
    property (codes "mood") type.Int8 flag.OtherClients (number 0) ∷
    property (codes "note") type.Text flag.CellPrivate (Text []) ∷
    property (codes "rank") type.Uint8 flag.BaseAndClient (number 1) ∷
    property (codes "scent") type.Uint16 flag.CellPublic (number 0) ∷
    property (codes "xp") type.Uint64 flag.OwnClient (number 0) ∷
    []

abbrev pub avatar_methods : List Method
avatar_methods =
    method (codes "cast") part.Cell true (type.Uint16 ∷ []) (Sub 2 (Arg 1) ∷ Add 7 (Constant (number 1)) ∷ []) ∷
    method (codes "feel") part.Cell true (type.Int8 ∷ []) (Put 3 (Arg 1) ∷ []) ∷
    method (codes "heal") part.Cell true (type.Int32 ∷ []) (Add 1 (Arg 1) ∷ []) ∷
    method (codes "hit") part.Cell true (type.Int32 ∷ []) (Sub 1 (Arg 1) ∷ []) ∷
    method (codes "mark") part.Cell false (type.Uint16 ∷ []) (Put 6 (Arg 1) ∷ []) ∷
    method (codes "pay") part.Base false (type.Uint32 ∷ []) (Add 0 (Arg 1) ∷ []) ∷
    method (codes "promote") part.Base true [] (Add 5 (Constant (number 1)) ∷ []) ∷
    method (codes "write") part.Cell false (type.Text ∷ []) (Put 4 (Arg 1) ∷ []) ∷
    []

abbrev pub chest_properties : List Property
chest_properties = property (codes "lid") type.Uint8 flag.AllClients (number 0) ∷ []

abbrev pub chest_methods : List Method
chest_methods =
    method (codes "lift") part.Cell true [] (Put 0 (Constant (number 1)) ∷ []) ∷
    method (codes "shut") part.Cell true [] (Put 0 (Constant (number 0)) ∷ []) ∷
    []

abbrev pub builtin : List TypeDef
builtin =
    record { name = codes "Avatar"; properties = avatar_properties; methods = avatar_methods } ∷
    record { name = codes "Chest"; properties = chest_properties; methods = chest_methods } ∷
    []

-- the number of the method with that name: methods are numbered by their places
abbrev pub method_named : List ℕ → List Method → ℕ
method_named name ms = position_or_len (λ m. bytes_eq m.name name) ms
