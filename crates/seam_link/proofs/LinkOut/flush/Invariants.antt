use Rattle.std.proofs.Common.{◌≡◌, ◌++◌, length}
use Rattle.rtrb.specs.Ring.{sent}
use Rattle.seam_link.specs.Ends.{ring_of_out}
use Rattle.seam_link.proofs.LinkOut.flush.Given as goal

abbrev pub invariant-loop-self : goal.invariant-loop-self
invariant-loop-self g l =
    (sent l.self-inside.ring ++ l.self-inside.spill.items ≡ l.fn.self.put) × (ring_of_out l.self-inside.ring ≡ l.fn.self.ring)
    × (l.self-inside.fulls ≡ l.fn.self.fulls)

abbrev pub decreases-loop-self : goal.decreases-loop-self
decreases-loop-self g l = length l.self-inside.spill.items
