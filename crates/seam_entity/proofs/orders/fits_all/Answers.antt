use Rattle.std.proofs.Common.{◌≡◌, true, sym, subst}
use Rattle.seam_entity.specs.ReadyCalls.{all_held}
use Rattle.seam_entity.specs.Covers.{covers, AreCovered}
use Rattle.seam_entity.proofs.CoverLemmas.{held_weaker}
use Rattle.seam_entity.proofs.orders.fits_all.Goals as goal

pub returns-in-Some : goal.returns-in-Some
returns-in-Some c = λ all me os covered.
    held_weaker _ _ (c.fits.ensures all me) os
    (subst (λ k. all_held (covers k) os ≡ true) (sym c.deref.ensures) (subst (λ o. AreCovered o os) c.in-Some.is covered))
