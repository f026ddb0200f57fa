use Rattle.std.proofs.Common.{sym, subst, ap, ◌∙◌}
use Rattle.seam_node_steps.specs.Prelude.{IsInSpace, home_after, haunts_at}
use Rattle.seam_cell_parts.specs.Settling.{former}
use Rattle.seam_cell_parts.specs.Kept.{here_in}
use Rattle.seam_cell_parts.proofs.settle.plan_here.Goals as goal

pub make_plan-requires-clause-inside : goal.make_plan-requires-clause-inside
make_plan-requires-clause-inside c = subst (λ t. IsInSpace t c.args.pos) (sym c.get.ensures) c.requires.inside

pub returns-clause-home : goal.returns-clause-home
returns-clause-home c =
    let k = c.args.known.now in
    c.make_plan.ensures.home k.defs ∙ ap (λ t. home_after (here_in k) t c.args.pos) c.get.ensures

pub returns-clause-haunts : goal.returns-clause-haunts
returns-clause-haunts c =
    let k = c.args.known.now in
    let h = here_in k in
    c.make_plan.ensures.haunts k.defs
    ∙ ap (λ t. haunts_at h t c.args.pos (home_after h t c.args.pos) (former h.me (home_after h t c.args.pos) c.args.old)) c.get.ensures
