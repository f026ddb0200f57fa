use Rattle.std.proofs.Common.{◌≡◌, ◌<◌, length, map, Some}
use Rattle.std.specs.VecDeque.{deque_len, deque_capacity}
use Rattle.seam_machine.specs.Sends.{first_target}
use Rattle.seam_machine.specs.Inside.{PutsRun}
use Rattle.seam_machine.proofs.rows.move_run.Given as goal

abbrev pub invariant-loop-sent : goal.invariant-loop-sent
invariant-loop-sent g l = record {
  moved : PutsRun l.to (map (λ p. p.1) l.fn.link.items) l.fn.out.items (map (λ p. p.1) l.link.items) l.out.items;
  target : first_target l.out.items ≡ Some l.to;
  room : deque_len l.link < deque_capacity l.link;
}

abbrev pub decreases-loop-sent : goal.decreases-loop-sent
decreases-loop-sent g l = length l.out.items
