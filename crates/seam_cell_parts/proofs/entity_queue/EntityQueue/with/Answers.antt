use Rattle.std.proofs.Common.{◌++◌, sym, subst, ap, ◌∙◌}
use Rattle.std.specs.List.Sorted.{IsStrictlySortedBy}
use Rattle.std.specs.Ordering.{nat_cmp}
use Rattle.seam_node_steps.specs.Prelude.{with_entity}
use Rattle.seam_cell_parts.specs.Queues.{entities, waiting, passed}
use Rattle.seam_cell_parts.proofs.entity_queue.EntityQueue.with.Goals as goal

pub put_entry-requires : goal.put_entry-requires
put_entry-requires c =
    let all = c.in_ok-extend_from_slice.ensures.items ∙ (λ i. c.new-entries.ensures.items i ++ c.deref.ensures.value i) in
    subst (λ l. IsStrictlySortedBy nat_cmp (entities l)) (sym all) c.self.invariant.rising

pub invariant_of-result : goal.invariant_of-result
invariant_of-result c = record {
  rising = c.in_ok-put_entry.ensures.rising;
  first = c.first_from-place.ensures ∙ ap passed c.deref-2.ensures.value;
}

pub returns : goal.returns
returns c =
    let all = c.in_ok-extend_from_slice.ensures.items ∙ (λ i. c.new-entries.ensures.items i ++ c.deref.ensures.value i) in
    c.in_ok-put_entry.ensures.waits
    ∙ (ap (λ l. with_entity c.args.e (waiting l)) all ∙ ap (with_entity c.args.e) c.self.view_is)
