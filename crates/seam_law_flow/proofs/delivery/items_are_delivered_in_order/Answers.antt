use Rattle.seam_law_flow.proofs.Delivering.{delivery_goes, all_delivered, delivery_starts}
use Rattle.seam_law_flow.proofs.delivery.items_are_delivered_in_order.Goals as goal

pub returns-clause-kept : goal.returns-clause-kept
returns-clause-kept g c = λ order delivered brings w v m b first issued d p. delivery_goes order delivered brings m first issued b d p

pub returns-clause-all : goal.returns-clause-all
returns-clause-all g c =
    λ order delivered brings w b first issued d empty none. all_delivered order delivered brings w b first issued d empty none

pub returns-clause-starts : goal.returns-clause-starts
returns-clause-starts g c =
    λ order delivered brings w b first low few at none held_none empty. delivery_starts order delivered brings w b first low few at none
    held_none empty
