use Rattle.seam_order.proofs.OrderLaws.{order_after_offer, order_after_taking}
use Rattle.seam_order.proofs.order_is_kept.Goals as goal

pub returns-clause-offered : goal.returns-clause-offered
returns-clause-offered g c = λ w n item q one few out. order_after_offer w n item q few out

pub returns-clause-taken : goal.returns-clause-taken
returns-clause-taken g c = λ w q. order_after_taking w q
