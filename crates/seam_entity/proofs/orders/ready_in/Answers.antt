use Rattle.std.proofs.Common.{◌∙◌}
use Rattle.seam_entity.proofs.ReadyLemmas.{no_call, call_there}
use Rattle.seam_entity.proofs.orders.ready_in.Goals as goal

pub returns-in_default : goal.returns-in_default
returns-in_default c = no_call c.args.entries.now c.requires c.in_default.ensures.none

pub returns : goal.returns
returns c =
    c.peek.ensures
    ∙ call_there c.args.entries.now c.in-Some.at c.index-entries-at.result c.requires c.in-Some.ensures.some
