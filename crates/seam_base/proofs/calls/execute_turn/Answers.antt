use Rattle.std.proofs.Common.{ap, ◌∙◌}
use Rattle.seam_entity.specs.Preparing.{node_with}
use Rattle.seam_node_steps.specs.BaseCases.{with_offer, executed}
use Rattle.seam_base.specs.Parts.{part_of}
use Rattle.seam_base.proofs.PartLemmas.{executed_from}
use Rattle.seam_base.proofs.calls.execute_turn.Goals as goal

pub returns-clause-after : goal.returns-clause-after
returns-clause-after c = λ me settings.
    c.execute_after.ensures
    ∙ (executed_from (node_with c.args.defs.now me settings) (part_of c.make_room.new.body) c.in-Ok.after.state c.in-Ok.after.text
    c.args.call
    (c.in-Ok.ensures.state me settings) (c.in-Ok.ensures.text me settings)
    ∙ ap (λ p. with_offer (executed (node_with c.args.defs.now me settings) p c.args.call) c.args.call) c.make_room.ensures.same)
