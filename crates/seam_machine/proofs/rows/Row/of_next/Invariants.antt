use Rattle.std.proofs.Common.{◌≡◌, ◌+◌, ◌++◌, length, map}
use Rattle.seam_machine.proofs.rows.Row.of_next.Given as goal

abbrev pub invariant-loop-i : goal.invariant-loop-i
invariant-loop-i g l = record {
  taken : map (λ q. map (λ p. p.1) q.items) l.links.items ++ map (λ v. v.items) l.rest.items ≡ map (λ v. v.items) l.fn.rest.items;
  wide : length l.links.items ≡ l._i;
  left : length l.rest.items + l._i ≡ length l.fn.rest.items;
}
