use Rattle.std.proofs.Common.{refl, ap, ◌+◌, ◌∙◌}
use Rattle.seam_node_steps.specs.Settle.{home_after, haunts_at}
use Rattle.seam_cell_parts.specs.Settling.{former}
use Rattle.seam_cell_parts.specs.Kept.{here_in}
use Rattle.seam_cell_parts.proofs.SettleLemmas.{told_from}
use Rattle.seam_cell_parts.proofs.settle.tell_from.Goals as goal

pub returns : goal.returns
returns c =
    let k = c.args.known.now in
    let j = home_after (here_in k) k.bounds.tree c.args.pos in
    told_from (here_in k) k.bounds.tree c.args.real.now.core c.args.pos c.args.changed _ refl c.plan_here-plan.ensures.home
    c.haunts-old.ensures
    (c.plan_here-plan.ensures.haunts
    ∙ ap (λ o. haunts_at (here_in k) k.bounds.tree c.args.pos j (former k.me j o)) c.haunts-old.ensures)
    refl c.entity.ensures (ap (λ n. n + 1) c.beat.ensures)
