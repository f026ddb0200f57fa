use Rattle.std.proofs.Common.{◌≡◌, ◌++◌, ◌+◌, map, length}
use Rattle.std.specs.List.{filter}
use Rattle.seam_cell_seen.specs.Merging.{seen_at_location, is_other, merged}
use Rattle.seam_cell_seen.proofs.merging.merged.Given as goal

-- what was seen, and what is left, is all
abbrev pub invariant-loop-next : goal.invariant-loop-next
invariant-loop-next l =
    l.seen.items ++ map seen_at_location (filter (is_other l.own) (merged l.first l.second))
    ≡ map seen_at_location (filter (is_other l.own) (merged l.reals l.copies))

abbrev pub decreases-loop-next : goal.decreases-loop-next
decreases-loop-next l = length l.first + length l.second
