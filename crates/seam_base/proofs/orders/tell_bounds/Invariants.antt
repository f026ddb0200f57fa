use Rattle.std.proofs.Common.{◌≡◌, ◌≤◌, ◌+◌, ◌++◌, map}
use Rattle.std.specs.List.{range_with_len}
use Rattle.seam_node_steps.specs.BaseCases.{bounds_to}
use Rattle.seam_base.proofs.orders.tell_bounds.Given as goal

abbrev pub invariant-loop-k : goal.invariant-loop-k
invariant-loop-k l = record {
  sent : l.out.items ≡ l.fn.out.items ++ map (bounds_to l.bounds) (range_with_len 0 l.k);
  room : l.cells ≤ l.out.spare + l.k;
}
