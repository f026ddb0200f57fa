use Rattle.std.proofs.Common.{◌+◌, min, take, sym, ap, ◌∙◌}
use Rattle.seam_node_steps.specs.Prelude.{link, total, carried}
use Rattle.seam_quiet.proofs.Counts.{most, total_next, counted_on}
use Rattle.seam_quiet.proofs.holders.count_on_link.Goals as goal

pub loop-i-preserved : goal.loop-i-preserved
loop-i-preserved c =
    let xs = link c.args.net.now.rows c.args.from c.args.to in
    let f = carried c.args.e c.args.to in
    let i = c.loop-i.i in
    let m = c.in-Some.message.now in
    counted_on c.args.so_far (total f (take i xs)) (f m) (total f (take (i + 1) xs)) c.loop-i.count c.count_if-count.result
    c.loop-i.invariant (total_next f xs i m (sym c.in-Some.ensures))
    (c.count_if-count.ensures ∙ ap (λ b. min (c.loop-i.count + b) most) (sym (c.carries.ensures c.args.to)))
