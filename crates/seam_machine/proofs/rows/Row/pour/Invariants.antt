use Rattle.std.proofs.Common.{◌≡◌, ◌++◌, map}
use Rattle.seam_machine.proofs.rows.Row.pour.Given as goal

abbrev pub invariant-loop-link : goal.invariant-loop-link
invariant-loop-link g l = map (λ v. v.items) l.others.items ≡ map (λ v. v.items) l.fn.others.items ++ map (λ q. map (λ p. p.1) q.items)
    l.yielded
