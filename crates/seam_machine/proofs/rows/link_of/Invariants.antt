use Rattle.std.proofs.Common.{◌≡◌, map}
use Rattle.seam_machine.proofs.rows.link_of.Given as goal

abbrev pub invariant-loop-item : goal.invariant-loop-item
invariant-loop-item g l = map (λ p. p.1) l.link.items ≡ l.yielded
