use Rattle.std.proofs.Common.{ℕ, get_or, ltb, ltb-true, ltb-false, rules}
use Rattle.std.proofs.lemmas.List.Sorted.{IsPartitionPoint-from_clause, IsPartitionedBy-ltb}
use Rattle.std.specs.Map.{keys_of}
use Rattle.seam_view.specs.ByNumber.{entries_of}
use Rattle.seam_view.proofs.ByNumber.{rising_at}
use Rattle.seam_view.proofs.numbered.many_below.Goals as goal

pub returns-in-None-clause-below : goal.returns-in-None-clause-below
returns-in-None-clause-below c =
    let f : ℕ → ℕ = λ i. get_or (keys_of (entries_of c.args.slots.now)) i 0 in
    let parted = IsPartitionedBy-ltb f _ c.args.e (rising_at f c.args.by_number.now c.requires.rising) in
    let point =
    IsPartitionPoint-from_clause (λ i. ltb (f i) c.args.e) _ _ c.partition_point.ensures.partitioned parted
    (λ a r q k. search rules) in
    λ k d low h. ltb-true _ _ (point.0 k d low h)

pub returns-in-None-clause-above : goal.returns-in-None-clause-above
returns-in-None-clause-above c =
    let f : ℕ → ℕ = λ i. get_or (keys_of (entries_of c.args.slots.now)) i 0 in
    let parted = IsPartitionedBy-ltb f _ c.args.e (rising_at f c.args.by_number.now c.requires.rising) in
    let point =
    IsPartitionPoint-from_clause (λ i. ltb (f i) c.args.e) _ _ c.partition_point.ensures.partitioned parted
    (λ a r q k. search rules) in
    λ k d low h. ltb-false _ _ (point.1 k d low h)
