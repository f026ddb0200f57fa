use Rattle.std.proofs.Common.{◌-◌}
use Rattle.seam_balance.proofs.order.+push_boundaries.Given as goal

abbrev pub decreases-push_boundaries : goal.decreases-push_boundaries
decreases-push_boundaries l = 256 - l.from
