use Rattle.std.proofs.Common.{◌≡◌, true, sym, subst}
use Rattle.seam_entity.specs.ReadyCalls.{all_held}
use Rattle.seam_entity.specs.Covers.{covers, AreCovered}
use Rattle.seam_entity.proofs.CoverLemmas.{held_weaker}
use Rattle.seam_entity.proofs.orders.widen.Goals as goal

pub returns : goal.returns
returns c = λ os covered.
    held_weaker _ _ c.widen-refused.ensures os
    (subst (λ k. all_held (covers k) os ≡ true) (sym c.deref_mut.ensures.value) (subst (λ o. AreCovered o os) c.in-Some.is covered))
