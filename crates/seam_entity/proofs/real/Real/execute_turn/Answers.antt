use Rattle.std.proofs.Common.{ap, ◌∙◌}
use Rattle.seam_entity.specs.declared.real.Did.TheVariants.{Done}
use Rattle.seam_entity.specs.Preparing.{node_with}
use Rattle.seam_entity.proofs.RealLemmas.{executed_from}
use Rattle.seam_entity.proofs.real.Real.execute_turn.Goals as goal

pub returns-clause-after : goal.returns-clause-after
returns-clause-after c = λ me settings.
    c.execute_after.ensures
    ∙ executed_from (node_with c.args.defs.now me settings) c.args.self.now.core c.prepare.new.self.core c.in-Ok.after c.args.call
    c.in-Ok.ensures.same (c.in-Ok.ensures.state me settings) (c.in-Ok.ensures.changed me settings)

pub returns-clause-answer : goal.returns-clause-answer
returns-clause-answer c = λ me settings. ap Done (c.in-Ok.ensures.changed me settings)
