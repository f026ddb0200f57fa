use Rattle.std.proofs.Common.{◌+◌, ◌<◌, [], length, take, arith}
use Rattle.seam_node_steps.specs.Prelude.{total, carried}
use Rattle.seam_machine.proofs.Totals.{total-take}
use Rattle.seam_net_runs.specs.Weights.{row_weight}
use Rattle.seam_quiet.proofs.Counts.{counted_on}
use Rattle.seam_quiet.proofs.holders.count_hands.Goals as goal

pub loop-from-preserved : goal.loop-from-preserved
loop-from-preserved c =
    let rows = c.args.net.now.rows in
    let f = row_weight (carried c.args.e) in
    let square = c.node_count-from-end.ensures.square.rows in
    let lt : c.loop-from.from < length rows = omega (arith, square) in
    counted_on c.args.so_far (total f (take c.loop-from.from rows)) (f _) (total f (take (c.loop-from.from + 1) rows)) c.loop-from.count
    c.count_from-count.result c.loop-from.invariant (total-take f rows c.loop-from.from [] lt) c.count_from-count.ensures
