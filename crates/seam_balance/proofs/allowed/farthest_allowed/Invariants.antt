use Rattle.std.proofs.Common.{◌-◌}
use Rattle.seam_balance.proofs.Search.{IsSearched}
use Rattle.seam_balance.proofs.allowed.farthest_allowed.Given as goal

abbrev pub invariant-loop-farthest : goal.invariant-loop-farthest
invariant-loop-farthest l = IsSearched l.tree l.b l.from l.end l.farthest l.most

abbrev pub decreases-loop-farthest : goal.decreases-loop-farthest
decreases-loop-farthest l = l.most - l.farthest
