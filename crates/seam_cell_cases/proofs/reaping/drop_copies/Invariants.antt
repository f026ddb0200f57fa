use Rattle.std.proofs.Common.{◌≡◌, ◌≤◌, ◌+◌, ◌++◌}
use Rattle.std.specs.List.{filter_map, range_with_len}
use Rattle.seam_node_steps.specs.CellCases.{drop_at}
use Rattle.seam_cell_cases.proofs.reaping.drop_copies.Given as goal

abbrev pub invariant-loop-k : goal.invariant-loop-k
invariant-loop-k l = record {
  sent : l.out.items ≡ l.fn.out.items ++ filter_map (drop_at l.fn.real.core) (range_with_len 0 l.k);
  room : 16 ≤ l.out.spare + l.k;
}
