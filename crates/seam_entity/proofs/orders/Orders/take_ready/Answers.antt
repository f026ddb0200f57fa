use Rattle.std.proofs.Common.{sym, subst}
use Rattle.seam_entity.specs.Covers.{AreCovered}
use Rattle.seam_entity.proofs.CoverLemmas.{taken_covered}
use Rattle.seam_entity.proofs.orders.Orders.take_ready.Goals as goal

pub invariant_of-self : goal.invariant_of-self
invariant_of-self c = (
  c.take_ready_in.ensures.kept,
  subst (AreCovered c.self.inside.cover) (sym c.take_ready_in.ensures.after)
      (taken_covered c.self.inside.cover _ c.self.invariant.1),
)
