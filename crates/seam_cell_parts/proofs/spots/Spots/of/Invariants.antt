use Rattle.std.proofs.Common.{◌≡◌, ℕ, take}
use Rattle.std.specs.Ordering.{nat_cmp}
use Rattle.std.specs.FinMap as map
use Rattle.seam_cell_parts.proofs.spots.Spots.of.Given as goal

abbrev pub invariant-loop-e : goal.invariant-loop-e
invariant-loop-e l = (q : ℕ) → map.get l.list q ≡ map.find nat_cmp q (take l.e-index l.locations)
