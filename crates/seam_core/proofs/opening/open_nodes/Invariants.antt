use Rattle.std.proofs.Common.{◌≡◌, ◌++◌, map}
use Rattle.std.specs.List.{range_with_len}
use Rattle.seam_node_steps.specs.Prelude.{cell_count, empty_base}
use Rattle.seam_core.proofs.opening.open_nodes.Given as goal

abbrev pub invariant-loop-k : goal.invariant-loop-k
invariant-loop-k l = l.nodes.items ≡ l.initial.nodes.items ++ map (empty_base l.defs l.settings) (range_with_len cell_count l.k)
