use Rattle.std.proofs.Common.{ap, sym, is_some, ◌∙◌}
use Rattle.seam_cell_parts.proofs.QueueLemmas.{none_is}
use Rattle.seam_cell_parts.proofs.entity_queue.EntityQueue.is_empty.Goals as goal

pub returns : goal.returns
returns c = none_is c.args.self.now _ (sym (ap is_some c.first.ensures) ∙ c.is_none.ensures)
