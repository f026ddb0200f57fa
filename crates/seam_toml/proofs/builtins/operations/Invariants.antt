use Rattle.std.proofs.Common.{◌≡◌, map, take}
use Rattle.seam_toml.specs.BuiltinRows.{operation_of}
use Rattle.seam_toml.proofs.builtins.operations.Given as goal

abbrev pub invariant-loop-step : goal.invariant-loop-step
invariant-loop-step l = l.operations.items ≡ map operation_of (take l.step-index l.steps)
