use Rattle.std.proofs.Common.{◌≡◌, ◌+◌, ◌*◌, ◌++◌, length, map}
use Rattle.std.specs.List.{All}
use Rattle.seam_machine.specs.Nets.{flat}
use Rattle.seam_machine.proofs.nets.in_rows.Given as goal

abbrev pub invariant-loop-i : goal.invariant-loop-i
invariant-loop-i g l = record {
  taken : flat l.rows.items ++ map (λ v. v.items) l.rest.items ≡ map (λ v. v.items) l.fn.links.items;
  count : length l.rows.items ≡ l._i;
  wide : All (λ r. length r ≡ l.n) l.rows.items;
  left : length l.rest.items + l._i * l.n ≡ l.n * l.n;
}
