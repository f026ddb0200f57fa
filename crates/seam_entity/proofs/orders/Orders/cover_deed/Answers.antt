use Rattle.std.proofs.Common.{subst}
use Rattle.seam_entity.specs.Orders.{view_of}
use Rattle.seam_entity.specs.Covers.{AreCovered}
use Rattle.seam_entity.proofs.orders.Orders.cover_deed.Goals as goal

pub invariant_of-self : goal.invariant_of-self
invariant_of-self c = (
  c.self.invariant.0,
  subst (λ ps. AreCovered c.widen.new.cover (view_of ps).orders) c.deref.ensures.value
      (c.widen.ensures _ c.begin_cover.ensures),
)
