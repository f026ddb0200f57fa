use Rattle.std.proofs.Common.{sym, subst}
use Rattle.seam_entity.specs.Covers.{AreCovered}
use Rattle.seam_entity.proofs.orders.Orders.reserve.Goals as goal

pub invariant_of-self : goal.invariant_of-self
invariant_of-self c =
    (c.make_place.ensures.ordered, subst (AreCovered c.self.inside.cover) (sym c.make_place.ensures.same) c.self.invariant.1)
