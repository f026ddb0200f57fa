use Rattle.std.proofs.Common.{[], ◌∷◌}
use Rattle.std.specs.Cmp.{nat_cmp_total}
use Rattle.std.specs.FinMap as versions
use Rattle.std.specs.List.{IsDistinct}
use Rattle.std.specs.List.Sorted.{IsStrictlySortedBy}
use Rattle.seam_test_nodes.proofs.views.made_of_lists.Goals as goal

pub of_lists-requires-clause-once : goal.of_lists-requires-clause-once
unfolding IsDistinct
of_lists-requires-clause-once g c = (tt, tt)

pub of_lists-requires-clause-rising : goal.of_lists-requires-clause-rising
unfolding IsStrictlySortedBy
of_lists-requires-clause-rising g c = (tt, tt)

pub of_lists-requires-clause-last : goal.of_lists-requires-clause-last
of_lists-requires-clause-last g c = (versions.get-from_entries nat_cmp_total ((2, 0) ∷ []) 2, tt)
