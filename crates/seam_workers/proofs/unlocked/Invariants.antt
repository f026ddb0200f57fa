use Rattle.std.proofs.Common.{◌≡◌, ◌+◌, length}
use Rattle.seam_workers.specs.Seats.{Placed, filled}
use Rattle.seam_workers.proofs.unlocked.Given as goal

abbrev pub invariant-loop-i : goal.invariant-loop-i
invariant-loop-i g l = Placed l.found.items × (length l.found.items ≡ l._i) × (filled l.found.items ≡ 0)

abbrev pub invariant-loop-place : goal.invariant-loop-place
invariant-loop-place g l = Placed l.found.items × (length l.found.items ≡ l.n) × (filled l.found.items + length l.places.items ≡ l.n)

abbrev pub decreases-loop-place : goal.decreases-loop-place
decreases-loop-place g l = length l.places.items
