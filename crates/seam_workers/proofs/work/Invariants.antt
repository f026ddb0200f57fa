use Rattle.std.proofs.Common.{◌≡◌}
use Rattle.seam_workers.proofs.work.Given as goal

abbrev pub invariant-loop-turn : goal.invariant-loop-turn
invariant-loop-turn g l = l.shift.visits ≡ l.turn
