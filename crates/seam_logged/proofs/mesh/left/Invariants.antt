use Rattle.std.proofs.Common.{◌≡◌, ◌≤◌, ◌+◌, ◌*◌, length, map}
use Rattle.seam_logged.specs.SomeLinks.{Remaining}
use Rattle.seam_logged.proofs.Meets.{AreCells}
use Rattle.seam_logged.proofs.mesh.left.Given as goal

abbrev pub invariant-loop-from : goal.invariant-loop-from
invariant-loop-from g l = record {
  small : l.from ≤ length l.fn.ends.items;
  remaining : Remaining (length l.fn.ends.items) l.from 0 l.fn.ends.items (map (λ h. h.items) l.fn.hands.items) l.ends.items
      (map (λ h. h.items) l.hands.items);
  many : length l.links.items + l.from * length l.fn.ends.items ≡ length l.fn.ends.items * length l.fn.ends.items;
  cells : AreCells (length l.fn.ends.items) l.fn.ends.items (map (λ h. h.items) l.fn.hands.items) l.from (map (λ v. v.items) l.links.items);
}

abbrev pub decreases-loop-from : goal.decreases-loop-from
decreases-loop-from g l = l.from
