use Rattle.std.proofs.Common.{◌≤◌, ◌-◌, length}
use Rattle.seam_cell_parts.specs.Queues.{passed}
use Rattle.seam_cell_parts.proofs.entity_queue.first_from.Given as goal

abbrev pub invariant-loop-next : goal.invariant-loop-next
invariant-loop-next l = l.next ≤ passed l.entries

abbrev pub decreases-loop-next : goal.decreases-loop-next
decreases-loop-next l = length l.entries - l.next
