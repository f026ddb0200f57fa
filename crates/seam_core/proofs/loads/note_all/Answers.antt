use Rattle.std.proofs.Common.{◌<◌, length, arith}
use Rattle.seam_node_steps.specs.Prelude.{noted}
use Rattle.seam_core.proofs.Loading.{one_more}
use Rattle.seam_core.proofs.loads.note_all.Goals as goal

pub loop-k-preserved : goal.loop-k-preserved
loop-k-preserved c =
    let many = c.node_count-k-end.ensures.count in
    let lt : c.loop-k.k < length c.args.net.now.nodes = omega (arith, many) in
    one_more (noted c.args.e) c.loop-k.k c.args.net.now c.loop-k.net c.note_at.new.net c.loop-k.invariant lt
    (λ s at. c.in_ok-note_at.ensures s at)
