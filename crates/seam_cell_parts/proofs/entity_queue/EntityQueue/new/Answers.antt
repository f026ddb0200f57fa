use Rattle.std.proofs.Common.{sym, subst}
use Rattle.seam_cell_parts.specs.Queues.{IsQueue}
use Rattle.seam_cell_parts.proofs.QueueLemmas.{no_queue}
use Rattle.seam_cell_parts.proofs.entity_queue.EntityQueue.new.Goals as goal

pub invariant_of-result : goal.invariant_of-result
invariant_of-result c = subst (IsQueue 0) (sym c.new.ensures.items) no_queue
