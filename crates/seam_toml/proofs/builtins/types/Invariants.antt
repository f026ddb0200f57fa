use Rattle.std.proofs.Common.{◌≡◌, map, take}
use Rattle.seam_toml.specs.BuiltinRows.{type_of}
use Rattle.seam_toml.proofs.builtins.types.Given as goal

abbrev pub invariant-loop-row : goal.invariant-loop-row
invariant-loop-row l = l.types.items ≡ map type_of (take l.row-index l.rows)
