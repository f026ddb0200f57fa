use Rattle.std.proofs.Common.{◌≡◌, ◌+◌, ◌≤◌, ◌++◌, length}
use Rattle.rtrb.specs.Ring.{sent, received, known_items}
use Rattle.seam_link.specs.Ends.{ring_of_in}
use Rattle.seam_link.proofs.drain.Given as goal

abbrev pub invariant-loop-i : goal.invariant-loop-i
invariant-loop-i g l =
    (l._i + length (known_items l.consumer) ≡ l.n) × (l.fn.end.taken ++ (l.left.items ++ known_items l.consumer) ≡ sent l.ring)
    × (length l.left.items + (l.n) ≤ l.left.cap + l._i)
    × (received l.consumer ++ known_items l.consumer ≡ sent l.ring) × (ring_of_in l.consumer ≡ l.fn.end.ring)

abbrev pub invariant-loop-item : goal.invariant-loop-item
invariant-loop-item g l =
    (l.fn.end.taken ++ (l.left.items ++ l.spill.items) ≡ l.fn.out.put) × (length l.left.items + length l.spill.items ≤ l.left.cap)

abbrev pub decreases-loop-item : goal.decreases-loop-item
decreases-loop-item g l = length l.spill.items
