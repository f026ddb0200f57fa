use Rattle.std.proofs.Common.{◌∙◌}
use Rattle.seam_workers.proofs.run_named.Goals as goal

pub returns-clause-many : goal.returns-clause-many
returns-clause-many g c = c.in_ok-nodes.ensures.many ∙ (c.in_ok-found.ensures.same ∙ c.in_ok-places.ensures)
