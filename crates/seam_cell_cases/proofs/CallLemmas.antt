-- What a real that may be offered a call has room for, and what a call makes of it.
use Rattle.std.proofs.Common.{◌≡◌, ◌+◌, ◌<◌, ◌≤◌, ◌^◌, ℕ, Bool, true, false, not, ◌&&◌, nat_lt, is_some, refl, ap, sym, subst, ◌∙◌, arith}
use Rattle.std.proofs.lemmas.Bool.Decides.{nat_tests}
use Rattle.seam_defs.specs.declared.states.Later.{Later}
use Rattle.seam_node_steps.specs.Prelude.{with_later, item_at, Call as CallData, Here, may_rise, order_of, RealView, may_offer}
use Rattle.seam_node_steps.specs.Prelude.{fits_cell_part, may_settle, may_execute, may_call, public_after, executed, shows}
use Rattle.seam_entity.specs.Executing.{with_deed}
use Rattle.seam_entity.specs.Preparing.{with_after}
use Rattle.seam_cell_parts.specs.Stepping.{IsLater}
use Rattle.seam_entity.proofs.HeldLemmas.{both}

not_true : (a : Bool) → not a ≡ true → a ≡ false
not_true true h = cc
not_true false h = refl

pub rises : (n : ℕ) → may_rise n ≡ true → n < 2 ^ 62
rises n t = let below : n + 1 < 2 ^ 62 = grind (arith, nat_tests) in omega arith

from_zero : (n : ℕ) → nat_lt 0 n ≡ true → 1 ≤ n
from_zero n t = let below : 0 < n = grind (arith, nat_tests) in omega arith

-- the real can execute a call and settle
pub record CanSettle (r : RealView) : Type 0 where
  pub version : r.version < 2 ^ 62
  pub beat : r.beat < 2 ^ 62
  pub generation : r.generation < 2 ^ 62

-- and the call's number is none of those that it holds
pub record CanCall (r : RealView) (k : CallData) : Type 0 where
  pub from_one : 1 ≤ k.number
  pub small : k.number < 2 ^ 62
  pub not_held : is_some (item_at k.number (order_of r.orders k.sender).held) ≡ false
  pub real : CanSettle r

pub can_settle : (r : RealView) → may_execute r ≡ true → CanSettle r
can_settle r may =
    let one = both (may_rise r.version) (may_settle r) may in
    let two = both (may_rise r.beat) (may_rise r.generation) one.1 in
    record { version = rises r.version one.0; beat = rises r.beat two.0; generation = rises r.generation two.1 }

pub can_call : (h : Here) (r q : RealView) (k : CallData) → may_call h r k ≡ true → q ≡ r → CanCall q k
can_call h r q k may same =
    let one = both (fits_cell_part h r.entity r.ty k) (may_offer (order_of r.orders k.sender) k.number && may_execute r) may in
    let two = both (may_offer (order_of r.orders k.sender) k.number) (may_execute r) one.1 in
    let three = both (nat_lt 0 k.number) (may_rise k.number && not (is_some (item_at k.number (order_of r.orders k.sender).held))) two.0 in
    let four = both (may_rise k.number) (not (is_some (item_at k.number (order_of r.orders k.sender).held))) three.1 in
    subst (λ x. CanCall x k) (sym same) (record {
      from_one = from_zero k.number three.0;
      small = rises k.number four.0;
      not_held = not_true (is_some (item_at k.number (order_of r.orders k.sender).held)) four.1;
      real = can_settle r two.1;
    })

-- the real after the call, from what was known of it before
pub after_is : (h : Here) (r q : RealView) (a : Later) (k : CallData) → q ≡ r → with_later r.state a ≡ (with_deed h r k).state →
    a.changed ≡ shows h r k → with_after q a k ≡ with_deed h r k
after_is h r q a k same state changed =
    ap (λ x. with_after x a k) same
    ∙ (λ i. record (with_deed h r k) { state = state i; public = public_after (changed i) (r.version + 1) r.public })

pub executed_later : (h : Here) (r q : RealView) (k : CallData) → q ≡ r → IsLater q (executed h r k)
executed_later h r q k same = record {
  entity = ap (λ x. x.entity) (sym same);
  haunts = ap (λ x. x.haunts) (sym same);
  beat = ap (λ x. x.beat) (sym same);
}

-- the beat and the generation after a call are as they were
pub record RisesLater (r : RealView) : Type 0 where
  pub beat : r.beat < 2 ^ 62
  pub generation : r.generation < 2 ^ 62

pub executed_rises : (h : Here) (r q : RealView) (k : CallData) → may_call h r k ≡ true → q ≡ executed h r k → RisesLater q
executed_rises h r q k may same =
    let can = can_call h r r k may refl in
    subst RisesLater (sym same) (record { beat = can.real.beat; generation = can.real.generation })
