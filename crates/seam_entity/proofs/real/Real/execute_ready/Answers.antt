use Rattle.std.proofs.Common.{sym, subst, ◌∙◌}
use Rattle.seam_entity.specs.Preparing.{node_with, HasReady}
use Rattle.seam_entity.proofs.RealLemmas.{ready_from}
use Rattle.seam_entity.proofs.real.Real.execute_ready.Goals as goal

pub returns-clause-after : goal.returns-clause-after
returns-clause-after c me settings o k h =
    c.execute_ready_after.ensures o k (subst (λ r. HasReady r o k) (sym c.in_ok-after.ensures.same) h)
    ∙ ready_from (node_with c.args.defs.now me settings) c.args.self.now.core c.prepare_ready.new.self.core c.in_ok-after.after o k
    c.in_ok-after.ensures.same (c.in_ok-after.ensures.state me settings o k h) (c.in_ok-after.ensures.changed me settings o k h)
