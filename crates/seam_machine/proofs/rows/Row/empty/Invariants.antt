use Rattle.std.proofs.Common.{◌≡◌, map, replicate, []}
use Rattle.seam_machine.proofs.rows.Row.empty.Given as goal

abbrev pub invariant-loop-i : goal.invariant-loop-i
invariant-loop-i g l = map (λ q. map (λ p. p.1) q.items) l.links.items ≡ replicate l._i []
