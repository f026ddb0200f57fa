use Rattle.std.specs.List.Sorted.{IsStrictlySortedBy}
use Rattle.seam_test_nodes.proofs.views.seen.Goals as goal

pub returns : goal.returns
unfolding IsStrictlySortedBy
returns c = (tt, tt)
