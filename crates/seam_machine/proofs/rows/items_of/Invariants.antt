use Rattle.std.proofs.Common.{◌≡◌, ◌++◌, map, length}
use Rattle.seam_machine.proofs.rows.items_of.Given as goal

abbrev pub invariant-loop-item : goal.invariant-loop-item
invariant-loop-item g l = l.items.items ++ map (λ p. p.1) l.link.items ≡ map (λ p. p.1) l.fn.link.items

abbrev pub decreases-loop-item : goal.decreases-loop-item
decreases-loop-item g l = length l.link.items
