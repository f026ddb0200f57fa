use Rattle.std.proofs.Common.{sym, ap, ◌∙◌, subst, arith, is_some}
use Rattle.seam_order.specs.Held.{item_at, RiseFrom}
use Rattle.seam_order.proofs.HeldLemmas.{rises_above}
use Rattle.seam_order.proofs.InOrder.offer.Goals as goal

pub invariant_of-self : goal.invariant_of-self
invariant_of-self g c =
    let out = ap (λ w. is_some (item_at c.args.n w.held)) c.self.view_is ∙ c.requires.not_held in
    let rising = subst (λ low. RiseFrom low c.self.inside.held.entries) (sym c.if-n-self.true) c.self.invariant.rising in
    let few = c.requires.small in
    record {
      from_one = omega arith;
      small = omega (arith, few);
      rising = rises_above c.args.n c.self.inside.held.entries rising out;
    }
