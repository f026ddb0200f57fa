use Rattle.std.proofs.Common.{◌<◌, length, sym, ap, ◌∙◌, arith}
use Rattle.std.specs.Prelude.{slice_get}
use Rattle.seam_node_steps.specs.Nodes.{World}
use Rattle.seam_core.specs.Begun.{begun}
use Rattle.seam_core.proofs.Loading.{next_is, one_more}
use Rattle.seam_core.proofs.loads.begin_all.Goals as goal

pub loop-k-preserved : goal.loop-k-preserved
loop-k-preserved c =
    let many = c.node_count-k-end.ensures.count in
    let lt : c.loop-k.k < length c.args.net.now.nodes = omega (arith, many) in
    one_more (begun c.args.batch.now) c.loop-k.k c.args.net.now c.loop-k.net c.begin_at.new.net c.loop-k.invariant lt
    (λ s at. c.in_ok-begin_at.ensures s at)

pub begin_at-requires-clause-may : goal.begin_at-requires-clause-may
begin_at-requires-clause-may c s at =
    let k = c.loop-k.k in
    let same = ap (λ (v : World). slice_get v.nodes k) c.loop-k.invariant ∙ next_is (begun c.args.batch.now) k c.args.net.now.nodes in
    c.requires k s (sym same ∙ at)
