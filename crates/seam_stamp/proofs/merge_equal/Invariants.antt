use Rattle.std.proofs.Common.{◌≤◌, length, map}
use Rattle.std.specs.List.{sum_by}
use Rattle.seam_stamp.proofs.Orders.{MergesEqual}
use Rattle.seam_stamp.proofs.merge_equal.Given as goal

abbrev pub invariant-loop-k : goal.invariant-loop-k
invariant-loop-k g l = record {
  equal : MergesEqual (map (λ q. q.items) l.initial.heads.items) l.initial.merged.items (map (λ q. q.items) l.heads.items) l.merged.items
      l.k l.stamp;
  fewer : sum_by (λ q. length q.items) l.heads.items ≤ sum_by (λ q. length q.items) l.initial.heads.items;
}
