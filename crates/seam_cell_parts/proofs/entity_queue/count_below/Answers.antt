use Rattle.std.proofs.Common.{ltb, ltb-true, ltb-false, rules}
use Rattle.std.proofs.lemmas.List.Sorted.{IsPartitionPoint-from_clause, IsPartitionedBy-ltb}
use Rattle.seam_cell_parts.proofs.QueueLemmas.{rising_when_sorted}
use Rattle.seam_cell_parts.proofs.entity_queue.count_below.Goals as goal

pub returns-clause-below : goal.returns-clause-below
returns-clause-below c =
    let parted = IsPartitionedBy-ltb (λ w. w.entity) _ c.args.e (rising_when_sorted _ c.requires) in
    let point =
    IsPartitionPoint-from_clause (λ w. ltb w.entity c.args.e) _ _ c.partition_point.ensures.partitioned parted
    (λ a r q k. search rules) in
    λ k d low h. ltb-true _ _ (point.0 k d low h)

pub returns-clause-above : goal.returns-clause-above
returns-clause-above c =
    let parted = IsPartitionedBy-ltb (λ w. w.entity) _ c.args.e (rising_when_sorted _ c.requires) in
    let point =
    IsPartitionPoint-from_clause (λ w. ltb w.entity c.args.e) _ _ c.partition_point.ensures.partitioned parted
    (λ a r q k. search rules) in
    λ k d low h. ltb-false _ _ (point.1 k d low h)
