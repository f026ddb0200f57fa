use Rattle.std.proofs.Common.{◌≡◌, take, map as each}
use Rattle.std.specs.FinMap as map
use Rattle.seam_cell_parts.specs.Spots.{location_of_real}
use Rattle.seam_cell_parts.proofs.real_table.locations_of.Given as goal

abbrev pub invariant-loop-e : goal.invariant-loop-e
invariant-loop-e l = l.locations.items ≡ each (λ r. (r.0, location_of_real r.1)) (take l.e-index (map.entries l.items.items))
