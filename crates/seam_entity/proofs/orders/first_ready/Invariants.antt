use Rattle.seam_entity.specs.SenderPlaces.{NoneReady}
use Rattle.seam_entity.proofs.orders.first_ready.Given as goal

abbrev pub invariant-loop-i : goal.invariant-loop-i
invariant-loop-i l = NoneReady l.entries l.i
