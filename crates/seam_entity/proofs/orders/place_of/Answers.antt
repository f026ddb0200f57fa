use Rattle.std.proofs.Common.{ltb, ltb-true, ltb-false, rules}
use Rattle.std.proofs.lemmas.List.Sorted.{IsPartitionPoint-from_clause, IsPartitionedBy-ltb}
use Rattle.seam_call.specs.Senders.{rank_of}
use Rattle.seam_entity.proofs.OrderLemmas.{rising}
use Rattle.seam_entity.proofs.orders.place_of.Goals as goal

pub returns-clause-below : goal.returns-clause-below
returns-clause-below c =
    let parted = IsPartitionedBy-ltb (λ p. rank_of p.0) _ c.args.rank (rising _ c.requires) in
    let point =
    IsPartitionPoint-from_clause (λ p. ltb (rank_of p.0) c.args.rank) _ _ c.partition_point.ensures.partitioned parted
    (λ a r q k. search rules) in
    λ k d low h. ltb-true _ _ (point.0 k d low h)

pub returns-clause-above : goal.returns-clause-above
returns-clause-above c =
    let parted = IsPartitionedBy-ltb (λ p. rank_of p.0) _ c.args.rank (rising _ c.requires) in
    let point =
    IsPartitionPoint-from_clause (λ p. ltb (rank_of p.0) c.args.rank) _ _ c.partition_point.ensures.partitioned parted
    (λ a r q k. search rules) in
    λ k d low h. ltb-false _ _ (point.1 k d low h)
