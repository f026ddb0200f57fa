use Rattle.std.proofs.Common.{◌≡◌, true, subst, sym, ap, ◌∙◌}
use Rattle.seam_node_steps.specs.Prelude.{enabled, happens, node_steps, node_has_work}
use Rattle.seam_core.specs.Worlds.{IsWorld}
use Rattle.seam_core.proofs.Worlds.{still_world, leads_on}
use Rattle.seam_core.proofs.world.World.step.Goals as goal

pub invariant_of-self : goal.invariant_of-self
invariant_of-self c =
    subst IsWorld (sym c.in-Ok.ensures.happens)
    (still_world c.self.inside.net c.args.event c.self.invariant
    (subst (λ w. enabled node_has_work w c.args.event ≡ true) (sym c.self.view_is) c.requires))

pub returns-in-Ok-clause-leads : goal.returns-in-Ok-clause-leads
returns-in-Ok-clause-leads c start es leads =
    leads_on start c.args.self.now c.step.new.self es c.args.event c.requires
    (c.in-Ok.ensures.happens ∙ ap (λ w. happens node_steps w c.args.event) c.self.view_is) leads
