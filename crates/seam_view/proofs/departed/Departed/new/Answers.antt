use Rattle.std.proofs.Common.{ap, sym, subst, ◌∙◌, eqb, length}
use Rattle.std.specs.List.Sorted.{IsStrictlySortedBy}
use Rattle.std.specs.Map.{lookup}
use Rattle.std.specs.Ordering.{nat_cmp}
use Rattle.seam_view.proofs.Leaving.{none_rising}
use Rattle.seam_view.proofs.departed.Departed.new.Goals as goal

pub invariant_of-result : goal.invariant_of-result
invariant_of-result c = (
  record {
    many = ap length c.new-2.ensures.items ∙ sym (ap length c.new.ensures.items);
    rising = subst (IsStrictlySortedBy nat_cmp) (sym c.new.ensures.items) none_rising;
  },
  λ q h. ap (lookup (eqb q)) c.with_hasher.ensures.empty,
)
