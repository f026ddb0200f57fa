use Rattle.std.proofs.Common.{◌≡◌, take}
use Rattle.seam_cell_cases.proofs.loads.all_entities.Given as goal

abbrev pub invariant-loop-e : goal.invariant-loop-e
invariant-loop-e l = l.all ≡ take l.e-index l.e-items
