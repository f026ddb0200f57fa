use Rattle.std.proofs.Common.{◌≡◌, map}
use Rattle.seam_stamp.proofs.queues.Given as goal

abbrev pub invariant-loop-log : goal.invariant-loop-log
invariant-loop-log g l = map (λ q. q.items) l.queues.items ≡ map (λ v. v.items) l.yielded
