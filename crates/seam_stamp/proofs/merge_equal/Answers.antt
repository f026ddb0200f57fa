use Rattle.std.proofs.Common.{rules, ◌≡◌, ◌<◌, [], map, length, get_or, set, ap, sym, subst, arith}
use Rattle.std.specs.Prelude.{◌⊎◌}
use Rattle.std.proofs.lemmas.List.{map-set, length-map}
use Rattle.std.proofs.lemmas.List.Sums.{sum_by-set}
use Rattle.seam_stamp.specs.Heads.{HasMoved, HasOther}
use Rattle.seam_stamp.proofs.Orders.{read_view, equal_goes_on}
use Rattle.seam_stamp.proofs.merge_equal.Goals as goal

pub loop-k-preserved : goal.loop-k-preserved
loop-k-preserved g c =
    let queues = c.loop-k.heads.items in
    let heads = map (λ q. q.items) queues in
    let k = c.loop-k.k in
    let stamp = c.args.stamp in
    let old = c.index_mut.result.now in
    let new = c.merge_first.new.head in
    let items = c.loop-k.merged.items in
    let items' = c.merge_first.new.merged.items in
    let within : k < length queues = search rules in
    let many : k < length heads = omega (arith, within, length-map queues (λ q. q.items)) in
    let at : get_or heads k [] ≡ old.items = read_view (λ q. q.items) queues k old [] within c.index_mut.ensures.value in
    let first = subst (λ l. HasMoved stamp l new.items items items' ⊎ HasOther stamp l new.items items items') (sym at)
    c.in_ok-merge_first.ensures.first in
    record {
      equal = rw (map-set (λ q. q.items) queues k new)
          (equal_goes_on (map (λ q. q.items) c.args.heads.now.items) c.args.merged.now.items heads items items' k stamp new.items many
          c.loop-k.invariant.equal first);
      fewer =
          let less = c.merge_first.ensures.fewer in
          let sums = sum_by-set (λ q. length q.items) queues k new old within in
          let was : get_or queues k old ≡ old = sym c.index_mut.ensures.value in
          let long = ap (λ q. length q.items) was in
          let before = c.loop-k.invariant.fewer in
          omega (arith, less, sums, long, before);
    }

pub returns-clause-merging : goal.returns-clause-merging
returns-clause-merging g c = c.loop-k.invariant.equal.merging
