use Rattle.std.proofs.Common.{ap, ◌∙◌, arith}
use Rattle.seam_node_steps.specs.Loads.{empty_cell}
use Rattle.seam_core.proofs.Opened.{one_opened}
use Rattle.seam_core.proofs.opening.open_cells.Goals as goal

pub loop-k-preserved : goal.loop-k-preserved
loop-k-preserved c =
    one_opened (empty_cell c.args.defs.now c.args.settings) 0 c.loop-k.k c.loop-k.k c.loop-k.nodes.items c.push.new.self.items
    c.of_cell.result
    c.in_ok-push.ensures.items c.loop-k.invariant
    (c.of_cell.ensures ∙ (c.in_ok-cell.ensures ∙ ap (λ d. empty_cell d c.args.settings c.loop-k.k) c.in_ok-copy.ensures)) (omega arith)
