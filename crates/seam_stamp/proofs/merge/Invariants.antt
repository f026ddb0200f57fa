use Rattle.std.proofs.Common.{length, map}
use Rattle.std.specs.List.{sum_by}
use Rattle.seam_stamp.specs.Heads.{IsMergingTo}
use Rattle.seam_stamp.proofs.merge.Given as goal

abbrev pub invariant-loop-k : goal.invariant-loop-k
invariant-loop-k g l = IsMergingTo (map (λ v. v.items) l.fn.logs.items) (map (λ q. q.items) l.heads.items) l.merged.items

abbrev pub decreases-loop-k : goal.decreases-loop-k
decreases-loop-k g l = sum_by (λ q. length q.items) l.heads.items
