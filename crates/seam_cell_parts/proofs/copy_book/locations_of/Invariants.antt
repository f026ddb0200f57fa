use Rattle.std.proofs.Common.{◌≡◌, take, map as each}
use Rattle.seam_ghosts.specs.Book.{copies}
use Rattle.seam_cell_parts.specs.Spots.{location_of_copy}
use Rattle.seam_cell_parts.proofs.copy_book.locations_of.Given as goal

abbrev pub invariant-loop-e : goal.invariant-loop-e
invariant-loop-e l = l.locations.items ≡ each (λ r. (r.0, location_of_copy r.1)) (take l.e-index (copies l.book))
