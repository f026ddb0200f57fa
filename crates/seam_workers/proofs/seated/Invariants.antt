use Rattle.std.proofs.Common.{◌≡◌, ◌+◌, length}
use Rattle.seam_workers.proofs.Lists.{Begins}
use Rattle.seam_workers.proofs.seated.Given as goal

abbrev pub invariant-loop-node : goal.invariant-loop-node
invariant-loop-node g l =
    Begins l.nodes.items l.fn.nodes.items × Begins l.ends.items l.fn.ends.items × Begins l.claims.items l.fn.claims.items
    × (length l.claims.items ≡ length l.nodes.items) × (length l.ends.items ≡ length l.nodes.items)
    × (length l.places.items + length l.nodes.items ≡ length l.fn.nodes.items)

abbrev pub decreases-loop-node : goal.decreases-loop-node
decreases-loop-node g l = length l.nodes.items
