use Rattle.std.proofs.Common.{ap, sym, subst, ◌∙◌}
use Rattle.seam_cell_parts.specs.Queues.{IsQueue}
use Rattle.seam_cell_parts.proofs.QueueLemmas.{no_queue}
use Rattle.seam_cell_parts.proofs.entity_queue.EntityQueue.spare.Goals as goal

pub invariant_of-self : goal.invariant_of-self
invariant_of-self c = subst (IsQueue 0) (sym (ap (λ v. v.items) c.replace-entries.ensures.after ∙ c.new-2.ensures.items)) no_queue
