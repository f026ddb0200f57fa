use Rattle.std.proofs.Common.{◌≡◌, ◌≤◌, ◌+◌, ◌++◌, length}
use Rattle.std.specs.VecDeque.{deque_len, deque_capacity}
use Rattle.seam_machine.proofs.sends.move_all.Given as goal

abbrev pub invariant-loop-item : goal.invariant-loop-item
invariant-loop-item g l = record {
  moved : l.to.items ++ l.items.items ≡ l.fn.to.items ++ l.fn.items.items;
  room : deque_len l.to + length l.items.items ≤ deque_capacity l.to;
}

abbrev pub decreases-loop-item : goal.decreases-loop-item
decreases-loop-item g l = length l.items.items
