use Rattle.seam_logged.proofs.Hands.{IsTurned}
use Rattle.seam_logged.proofs.mesh.from_hand.Given as goal

abbrev pub invariant-loop-i : goal.invariant-loop-i
invariant-loop-i g l = IsTurned l.from l._i l.fn.hand.items l.hand.items l.given.items
