use Rattle.std.proofs.Common.{◌∙◌}
use Rattle.seam_entity.proofs.ReadyLemmas.{ready_found}
use Rattle.seam_entity.proofs.orders.has_ready_in.Goals as goal

pub returns : goal.returns
returns c =
    c.is_some.ensures
    ∙ ready_found c.args.entries.now c.first_ready.result c.requires c.first_ready.ensures.some c.first_ready.ensures.none
