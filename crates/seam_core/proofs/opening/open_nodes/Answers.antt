use Rattle.std.proofs.Common.{◌+◌, refl, ap, ◌∙◌}
use Rattle.seam_node_steps.specs.Prelude.{cell_count, empty_base}
use Rattle.seam_core.proofs.Opened.{one_after}
use Rattle.seam_core.proofs.opening.open_nodes.Goals as goal

pub loop-k-preserved : goal.loop-k-preserved
loop-k-preserved c =
    let j = cell_count + c.loop-k.k in
    one_after (empty_base c.args.defs.now c.args.settings) cell_count c.loop-k.k j c.in_ok-nodes.nodes.items c.loop-k.nodes.items
    c.push.new.self.items c.of_base.result c.in_ok-push.ensures.items c.loop-k.invariant
    (c.of_base.ensures ∙ (c.new-base.ensures ∙ ap (λ d. empty_base d c.args.settings j) c.in_ok-copy.ensures)) refl
