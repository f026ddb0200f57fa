-- Reals after calls.
use Rattle.std.proofs.Common.{◌≡◌, ℕ, ◌+◌, Bool, true, eqb, sym, ap, ◌∙◌, subst, arith, Result, IfOk, OnOk}
use Rattle.std.specs.Ordering.{nat_cmp, match_ordering}
use Rattle.std.specs.declared.cmp.Ordering.TheVariants.{Equal}
use Rattle.std.proofs.lemmas.Bool.Decides.{nat_tests}
use Rattle.seam_defs.specs.declared.states.Later.{Later}
use Rattle.seam_defs.specs.Deeds.{with_later}
use Rattle.seam_order.specs.Held.{OrderView}
use Rattle.seam_order.specs.Offers.{after_taking}
use Rattle.seam_call.specs.declared.call.Call.{Call}
use Rattle.seam_entity.specs.Orders.{order_of}
use Rattle.seam_entity.specs.Reals.{RealView}
use Rattle.seam_entity.specs.Here.{Here}
use Rattle.seam_entity.specs.Executing.{public_after, with_deed, with_offer, with_order, executed, executed_ready, shows}
use Rattle.seam_entity.specs.Preparing.{with_after, outcome_of, offered}
use Rattle.seam_entity.specs.declared.real.Did.{Did}
use Rattle.seam_entity.specs.declared.real.Did.TheVariants.{Done, Held, Stale}

-- what `prepare` gave is what the call leaves
same_deed : (h : Here) (r : RealView) (a : Later) (k : Call) → with_later r.state a ≡ (with_deed h r k).state → a.changed ≡ shows h r k →
    with_after r a k ≡ with_deed h r k
same_deed h r a k s c = λ i. record (with_deed h r k) { state = s i; public = public_after (c i) (r.version + 1) r.public }

pub executed_from : (h : Here) (r p : RealView) (a : Later) (k : Call) → p ≡ r → with_later r.state a ≡ (with_deed h r k).state →
    a.changed ≡ shows h r k → with_offer (with_after p a k) k ≡ executed h r k
executed_from h r p a k e s c = ap (λ q. with_offer (with_after q a k) k) e ∙ ap (λ q. with_offer q k) (same_deed h r a k s c)

pub ready_from : (h : Here) (r p : RealView) (a : Later) (o : ℕ × OrderView Call) (k : Call) → p ≡ r →
    with_later r.state a ≡ (with_deed h r k).state → a.changed ≡ shows h r k →
    with_order (with_after p a k) o.0 (after_taking o.1) ≡ executed_ready h r o k
ready_from h r p a o k e s c =
    ap (λ q. with_order (with_after q a k) o.0 (after_taking o.1)) e
    ∙ ap (λ q. with_order q o.0 (after_taking o.1)) (same_deed h r a k s c)

turn_is : (n next : ℕ) → eqb n next ≡ true → nat_cmp n next ≡ Equal
turn_is n next t = grind (arith, nat_tests)

module _ (h : Here) (r : RealView) (k : Call) (t : Bool) (is : t ≡ eqb k.number (order_of r.orders k.sender).next) (turn : t ≡ true) where
  equal : nat_cmp k.number (order_of r.orders k.sender).next ≡ Equal
  equal = turn_is k.number (order_of r.orders k.sender).next (sym is ∙ turn)

  pub met_turn : {E : Type 0} (a : Result Did E) → IfOk a (λ d. d ≡ Done (shows h r k)) → IfOk a (λ d. d ≡ outcome_of h r k)
  met_turn a f = subst (λ o. IfOk a (λ d. d ≡ match_ordering o (Stale k) (Done (shows h r k)) Held)) (sym equal) f

  pub offered_turn : {E : Type 0} (a : Result Did E) (n : RealView) → OnOk a (n ≡ executed h r k) → OnOk a (n ≡ offered h r k)
  offered_turn a n f = subst (λ o. OnOk a (n ≡ match_ordering o r (executed h r k) (with_offer r k))) (sym equal) f
