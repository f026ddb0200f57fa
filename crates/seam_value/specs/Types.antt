-- The types of values: their names and their ranges.
use Rattle.std.specs.Prelude.{ℕ, ℤ, pos, negsuc, List, codes}
use Rattle.seam_value.specs.declared.types.ValueType.{ValueType}
use Rattle.seam_value.specs.declared.types.ValueType.TheVariants.{Int8, Int16, Int32, Int64, Uint8, Uint16, Uint32, Uint64, Text}

-- the name by which a definition of entities calls the type
abbrev pub name_of : ValueType → List ℕ
name_of Int8 = codes "INT8"
name_of Int16 = codes "INT16"
name_of Int32 = codes "INT32"
name_of Int64 = codes "INT64"
name_of Uint8 = codes "UINT8"
name_of Uint16 = codes "UINT16"
name_of Uint32 = codes "UINT32"
name_of Uint64 = codes "UINT64"
name_of Text = codes "STRING"

-- the least number of a number type (the text type has none: its 0 means nothing)
abbrev pub least : ValueType → ℤ
least Int8 = negsuc 127
least Int16 = negsuc 32767
least Int32 = negsuc 2147483647
least Int64 = negsuc 9223372036854775807
least Uint8 = pos 0
least Uint16 = pos 0
least Uint32 = pos 0
least Uint64 = pos 0
least Text = pos 0

-- the greatest number of a number type
abbrev pub greatest : ValueType → ℤ
greatest Int8 = pos 127
greatest Int16 = pos 32767
greatest Int32 = pos 2147483647
greatest Int64 = pos 9223372036854775807
greatest Uint8 = pos 255
greatest Uint16 = pos 65535
greatest Uint32 = pos 4294967295
greatest Uint64 = pos 18446744073709551615
greatest Text = pos 0
