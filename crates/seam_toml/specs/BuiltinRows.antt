-- What a row of the table of the built-in types means: not part of the public contracts.
use Rattle.std.specs.Prelude.{ℕ, ℤ, Bool, ◌&&◌, nat_le, List, [], length, map, Option, Some, None}
use Rattle.std.specs.List.{list_all}
use Rattle.seam_value.specs.declared.values.Value.{Value}
use Rattle.seam_value.specs.declared.values.Value.TheVariants.{Number, Text}
use Rattle.seam_toml.specs.declared.builtins.By.{By}
use Rattle.seam_toml.specs.declared.builtins.By.TheVariants as by
use Rattle.seam_toml.specs.declared.builtins.Step.{Step}
use Rattle.seam_toml.specs.declared.builtins.Step.TheVariants as step
use Rattle.seam_toml.specs.declared.builtins.PropertyRow.{PropertyRow}
use Rattle.seam_toml.specs.declared.builtins.MethodRow.{MethodRow}
use Rattle.seam_toml.specs.declared.builtins.TypeRow.{TypeRow}
use Rattle.seam_defs.specs.declared.types.Property.{Property}
use Rattle.seam_defs.specs.declared.types.Operand.{Operand}
use Rattle.seam_defs.specs.declared.types.Operand.TheVariants.{Arg, Constant}
use Rattle.seam_defs.specs.declared.types.Operation.{Operation}
use Rattle.seam_defs.specs.declared.types.Operation.TheVariants.{Put, Add, Sub}
use Rattle.seam_defs.specs.declared.types.Method.{Method}
use Rattle.seam_defs.specs.declared.types.TypeDef.{TypeDef}

abbrev pub operand_of : By → Operand
operand_of (by.Arg k) = Arg k
operand_of (by.Number z) = Constant (Number z)

abbrev pub operation_of : Step → Operation
operation_of (step.Put k a) = Put k (operand_of a)
operation_of (step.Add k a) = Add k (operand_of a)
operation_of (step.Sub k a) = Sub k (operand_of a)

abbrev pub default_of : Option ℤ → Value
default_of (Some z) = Number z
default_of None = Text []

abbrev pub property_of : PropertyRow → Property
property_of r = record { name = r.name.now; ty = r.ty; flag = r.flag; default = default_of r.default }

abbrev pub method_of : MethodRow → Method
method_of r = record { name = r.name.now; part = r.part; exposed = r.exposed; args = r.args.now; body = map operation_of r.body.now }

abbrev pub type_of : TypeRow → TypeDef
type_of r = record { name = r.name.now; properties = map property_of r.properties.now; methods = map method_of r.methods.now }

-- every name is short
abbrev pub is_short_row : List ℕ → Bool
is_short_row name = nat_le (length name) 255

abbrev pub is_short_property : PropertyRow → Bool
is_short_property r = is_short_row r.name.now

abbrev pub is_short_method : MethodRow → Bool
is_short_method r = is_short_row r.name.now

abbrev pub is_short_type : TypeRow → Bool
is_short_type r = is_short_row r.name.now && list_all is_short_property r.properties.now && list_all is_short_method r.methods.now
