use Rattle.std.proofs.Common.{sym, subst, ◌∙◌}
use Rattle.std.specs.List.Sorted.{IsStrictlySortedBy}
use Rattle.std.specs.Ordering.{nat_cmp}
use Rattle.seam_cell_parts.proofs.QueueLemmas.{all_wait, none_passed}
use Rattle.seam_cell_parts.proofs.entity_queue.EntityQueue.of.Goals as goal

pub invariant_of-result : goal.invariant_of-result
invariant_of-result c = record {
  rising = subst (IsStrictlySortedBy nat_cmp) (sym c.row.view_is) c.requires;
  first = none_passed c.row.inside.entries.items c.row.invariant;
}

pub returns : goal.returns
returns c = all_wait c.row.inside.entries.items c.row.invariant ∙ c.row.view_is
