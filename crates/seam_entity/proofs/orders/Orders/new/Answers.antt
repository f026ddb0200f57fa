use Rattle.std.proofs.Common.{subst, sym}
use Rattle.seam_entity.specs.SenderPlaces.{AreOrdered}
use Rattle.seam_entity.proofs.OrderLemmas.{ordered_none}
use Rattle.seam_entity.proofs.orders.Orders.new.Goals as goal

pub invariant_of-result : goal.invariant_of-result
invariant_of-result c = (subst AreOrdered (sym c.new.ensures.items) ordered_none, tt)
