use Rattle.std.proofs.Common.{◌≡◌, map, take}
use Rattle.seam_toml.specs.BuiltinRows.{property_of}
use Rattle.seam_toml.proofs.builtins.properties.Given as goal

abbrev pub invariant-loop-row : goal.invariant-loop-row
invariant-loop-row l = l.properties.items ≡ map property_of (take l.row-index l.rows)
