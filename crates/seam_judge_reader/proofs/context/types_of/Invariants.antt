use Rattle.std.proofs.Common.{◌≡◌, ℕ, take}
use Rattle.std.specs.FinMap as table
use Rattle.seam_judge_reader.proofs.EntityTypes.{type_among}
use Rattle.seam_judge_reader.proofs.context.types_of.Given as goal

abbrev pub invariant-loop-create : goal.invariant-loop-create
invariant-loop-create l = (e : ℕ) → table.get l.types.items e ≡ type_among (take l.create-index l.creates) e
