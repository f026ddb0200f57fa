use Rattle.std.proofs.Common.{◌≡◌, ℕ, Bool, true, false, nat_lt, rules, sym}
use Rattle.std.specs.List.Sorted.{IsPartitionPoint, IsPartitionedBy, IsNonDecreasingBy}
use Rattle.std.proofs.lemmas.List.Sorted.{IsNonDecreasingBy-from_sort, IsPartitionedBy-ltb, IsPartitionPoint-from_clause}
use Rattle.seam_balance.proofs.Counts.{count_by_point}
use Rattle.seam_balance.proofs.places.count_below.Goals as goal

pub returns : goal.returns
returns c =
    let key : ℕ → ℕ = λ x. x in
    let rising : IsNonDecreasingBy key c.args.places.now = IsNonDecreasingBy-from_sort key c.args.places.now c.requires in
    let test : ℕ → Bool = λ y. nat_lt y c.args.at in
    let parted : IsPartitionedBy test c.args.places.now = IsPartitionedBy-ltb key c.args.places.now c.args.at rising in
    let point : IsPartitionPoint (λ y. test y ≡ true) (λ y. test y ≡ false) c.args.places.now c.partition_point.result =
    IsPartitionPoint-from_clause test c.args.places.now c.partition_point.result c.partition_point.ensures.partitioned parted
    (λ a r f' h. search rules) in
    sym (count_by_point test c.args.places.now c.partition_point.result c.partition_point.ensures.bound point.0 point.1)
