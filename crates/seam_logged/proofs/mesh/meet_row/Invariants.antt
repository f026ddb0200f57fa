use Rattle.std.proofs.Common.{◌≡◌, ◌≤◌, ◌+◌, ◌++◌, List, length, map}
use Rattle.seam_logged.specs.SomeLinks.{Remaining, IsRow}
use Rattle.seam_logged.proofs.mesh.meet_row.Given as goal

abbrev pub invariant-loop-to : goal.invariant-loop-to
invariant-loop-to g l = record {
  small : l.to ≤ length l.fn.ends.items;
  remaining : Remaining (length l.fn.ends.items) l.from l.to l.fn.ends.items (map (λ h. h.items) l.fn.hands.items) l.ends.items
      (map (λ h. h.items) l.hands.items);
  row : (row : List (List _)) × (map (λ v. v.items) l.links.items ≡ row ++ map (λ v. v.items) l.fn.links.items)
      × (length row + l.to ≡ length l.fn.ends.items) × IsRow l.fn.ends.items (map (λ h. h.items) l.fn.hands.items) l.from l.to row;
}

abbrev pub decreases-loop-to : goal.decreases-loop-to
decreases-loop-to g l = l.to
