use Rattle.std.proofs.Common.{◌+◌, min, take, sym, ap, ◌∙◌}
use Rattle.seam_node_steps.specs.Prelude.{total, held_at}
use Rattle.seam_quiet.proofs.Counts.{most, total_next, counted_on}
use Rattle.seam_quiet.proofs.holders.count_reals.Goals as goal

pub loop-k-preserved : goal.loop-k-preserved
loop-k-preserved c =
    let xs = c.args.net.now.nodes in
    let f = held_at c.args.e in
    let k = c.loop-k.k in
    let s = c.in-Some.node.now in
    counted_on 0 (total f (take k xs)) (f s) (total f (take (k + 1) xs)) c.loop-k.count c.count_if-count.result
    c.loop-k.invariant (total_next f xs k s (sym c.in-Some.ensures))
    (c.count_if-count.ensures ∙ ap (λ b. min (c.loop-k.count + b) most) (sym c.has_real.ensures))
