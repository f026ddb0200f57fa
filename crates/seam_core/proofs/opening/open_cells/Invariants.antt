use Rattle.std.proofs.Common.{◌≡◌, map}
use Rattle.std.specs.List.{range_with_len}
use Rattle.seam_node_steps.specs.Loads.{empty_cell}
use Rattle.seam_core.proofs.opening.open_cells.Given as goal

abbrev pub invariant-loop-k : goal.invariant-loop-k
invariant-loop-k l = l.nodes.items ≡ map (empty_cell l.defs l.settings) (range_with_len 0 l.k)
