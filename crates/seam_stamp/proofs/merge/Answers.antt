use Rattle.std.proofs.Common.{rules, map, set, sym, subst}
use Rattle.seam_stamp.specs.Heads.{IsMergingTo}
use Rattle.seam_stamp.proofs.Orders.{merging_starts, taken}
use Rattle.seam_stamp.proofs.merge.Goals as goal

pub loop-k-init : goal.loop-k-init
loop-k-init g c =
    let logs = map (λ v. v.items) c.args.logs.items in
    subst (λ l. IsMergingTo logs l c.new-merged.result.items) (sym c.in_ok-heads.ensures)
    (subst (IsMergingTo logs logs) (sym c.new-merged.ensures.items) (merging_starts logs c.requires))

pub merge_equal-requires-clause-logs : goal.merge_equal-requires-clause-logs
merge_equal-requires-clause-logs g c =
    (taken (λ q. q.items) (map (λ v. v.items) c.args.logs.items) c.loop-k.heads.items c.loop-k.merged.items c.in-Some.k
    c.index_mut.result.now c.pop_front.new.self c.in-Some-pop_front.field-0 c.in-Some.ensures.some c.index_mut.ensures.value
    (search rules) c.loop-k.invariant).logs_left

pub merge_equal-requires-clause-later : goal.merge_equal-requires-clause-later
merge_equal-requires-clause-later g c =
    (taken (λ q. q.items) (map (λ v. v.items) c.args.logs.items) c.loop-k.heads.items c.loop-k.merged.items c.in-Some.k
    c.index_mut.result.now c.pop_front.new.self c.in-Some-pop_front.field-0 c.in-Some.ensures.some c.index_mut.ensures.value
    (search rules) c.loop-k.invariant).later

pub loop-k-preserved-in-Continue-branch-3 : goal.loop-k-preserved-in-Continue-branch-3
loop-k-preserved-in-Continue-branch-3 g c =
    let logs = map (λ v. v.items) c.args.logs.items in
    let entry = c.in-Some-pop_front.field-0 in
    let after = taken (λ q. q.items) logs c.loop-k.heads.items c.loop-k.merged.items c.in-Some.k c.index_mut.result.now
    c.pop_front.new.self entry c.in-Some.ensures.some c.index_mut.ensures.value (search rules) c.loop-k.invariant in
    c.in_ok-merge_equal.ensures.merging logs
    (subst (IsMergingTo logs (map (λ q. q.items) (set c.loop-k.heads.items c.in-Some.k c.pop_front.new.self)))
    (sym c.in_ok-push.ensures.items) after.merging)
