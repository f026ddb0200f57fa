use Rattle.std.proofs.Common.{map}
use Rattle.seam_stamp.proofs.Orders.{FirstBelow}
use Rattle.seam_stamp.proofs.first_head.Given as goal

abbrev pub invariant-loop-k : goal.invariant-loop-k
invariant-loop-k g l = FirstBelow (map (λ q. q.items) l.heads.items) l.k l.first l.least
