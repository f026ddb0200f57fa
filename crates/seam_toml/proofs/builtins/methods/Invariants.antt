use Rattle.std.proofs.Common.{◌≡◌, map, take}
use Rattle.seam_toml.specs.BuiltinRows.{method_of}
use Rattle.seam_toml.proofs.builtins.methods.Given as goal

abbrev pub invariant-loop-row : goal.invariant-loop-row
invariant-loop-row l = l.methods.items ≡ map method_of (take l.row-index l.rows)
