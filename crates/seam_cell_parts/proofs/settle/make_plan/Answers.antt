use Rattle.std.proofs.Common.{◌+◌, ap, ◌∙◌}
use Rattle.seam_node_steps.specs.Prelude.{haunts_of, node_with, haunts_at}
use Rattle.seam_cell_parts.specs.Settling.{former}
use Rattle.seam_cell_parts.proofs.settle.make_plan.Goals as goal

pub returns-clause-haunts : goal.returns-clause-haunts
returns-clause-haunts c defs =
    let s = c.args.settings.now in
    c.haunts_after-haunts.ensures.value
    ∙ (ap (λ o. haunts_of c.args.pos c.home_after-home.result o c.args.tree.now s.ghost_distance (s.ghost_distance + s.ghost_hysteresis))
    c.former.ensures
    ∙ ap (λ j. haunts_at (node_with defs c.args.me s) c.args.tree.now c.args.pos j (former c.args.me j c.args.old))
    (c.home_after-home.ensures defs))
