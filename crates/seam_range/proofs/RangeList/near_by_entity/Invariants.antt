use Rattle.std.proofs.Common.{◌≡◌, ◌++◌, map as each}
use Rattle.std.specs.List.{filter}
use Rattle.seam_range.specs.Locations.{is_within, within}
use Rattle.seam_range.proofs.RangeList.near_by_entity.Given as goal

abbrev pub invariant-loop-e : goal.invariant-loop-e
invariant-loop-e l =
    goal.iterator-loop-e.can_next l.e-iterator ×
    goal.iterator-loop-e.is_finite l.e-iterator ×
    (l.found.items ++ filter (λ e. is_within l.p l.d e.1) (each (λ r. (r.0, r.1.location)) l.e-iterator) ≡ within l.self l.p l.d)
