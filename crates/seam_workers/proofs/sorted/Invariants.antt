use Rattle.std.proofs.Common.{◌≡◌, ◌+◌, length, reverse}
use Rattle.seam_workers.specs.Seats.{Placed, filled}
use Rattle.seam_workers.proofs.Lists.{AreRunsFrom}
use Rattle.seam_workers.proofs.sorted.Given as goal

abbrev pub invariant-loop-place : goal.invariant-loop-place
invariant-loop-place g l =
    Placed l.found.items × (filled l.found.items ≡ length l.found.items)
    × (length l.nodes.items + length l.found.items ≡ length l.fn.found.items)
    × AreRunsFrom g.M.Machine.has_work g.M.Machine.steps g.M.Machine.peer_count g.J.Naming.roots (length l.found.items)
    (reverse l.nodes.items)

abbrev pub decreases-loop-place : goal.decreases-loop-place
decreases-loop-place g l = length l.found.items
