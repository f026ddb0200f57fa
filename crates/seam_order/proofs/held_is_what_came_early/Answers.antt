use Rattle.seam_order.proofs.OrderLaws.{held_early, held_other, held_taken}
use Rattle.seam_order.proofs.held_is_what_came_early.Goals as goal

pub returns-clause-early : goal.returns-clause-early
returns-clause-early g c = λ w n item m out lt. held_early w n item m out lt

pub returns-clause-other : goal.returns-clause-other
returns-clause-other g c = λ w n item le. held_other w n item le

pub returns-clause-taken : goal.returns-clause-taken
returns-clause-taken g c = λ w m q. held_taken w m q
