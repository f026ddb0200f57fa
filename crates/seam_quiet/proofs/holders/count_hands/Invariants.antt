use Rattle.std.proofs.Common.{◌≡◌, ◌+◌, min, take}
use Rattle.seam_node_steps.specs.Prelude.{total, carried}
use Rattle.seam_net_runs.specs.Weights.{row_weight}
use Rattle.seam_quiet.proofs.Counts.{most}
use Rattle.seam_quiet.proofs.holders.count_hands.Given as goal

abbrev pub invariant-loop-from : goal.invariant-loop-from
invariant-loop-from l = l.count ≡ min (l.so_far + total (row_weight (carried l.e)) (take l.from l.net.rows)) most
