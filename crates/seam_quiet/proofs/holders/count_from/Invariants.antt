use Rattle.std.proofs.Common.{◌≡◌, ◌+◌, min, take, []}
use Rattle.std.specs.Prelude.{slice_index_or}
use Rattle.seam_node_steps.specs.Prelude.{total, carried}
use Rattle.seam_net_runs.specs.Weights.{totals}
use Rattle.seam_quiet.proofs.Counts.{most}
use Rattle.seam_quiet.proofs.holders.count_from.Given as goal

abbrev pub invariant-loop-to : goal.invariant-loop-to
invariant-loop-to l = l.count ≡ min (l.so_far + totals (λ b. total (carried l.e b)) 0 (take l.to (slice_index_or l.net.rows l.fn.from [])))
    most
