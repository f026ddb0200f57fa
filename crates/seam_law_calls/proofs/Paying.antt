-- Where no order weighs less than what is sent for it, no move of a base node raises what its orders and its sends weigh.
use Rattle.seam_law_calls.proofs.Prelude.{◌≡◌, ℕ, ◌+◌, ◌≤◌, List, ◌∷◌, map, Option, ap, arith, range_with_len, total, Call as CallData}
use Rattle.seam_law_calls.proofs.Prelude.{Order, Here, Msg, BaseCall, Reap, tick_to, AtBase, BaseMoves}
use Rattle.seam_call.specs.declared.order.Order.TheVariants as order
use Rattle.seam_entity.specs.declared.message.Msg.TheVariants.{Call}
use Rattle.seam_law_calls.proofs.BaseDeeds as base
use Rattle.seam_law_calls.proofs.BaseDeeds.{base_deeds, BaseDeeds}

module _ (ordered : Order → ℕ) (letter : Msg → ℕ) (cells : ℕ) where
  abbrev sends : List (ℕ × Msg) → ℕ
  sends ps = total (λ p. letter p.1) ps

  -- what is sent for an order weighs no more than the order
  pub record OrdersPay : Type 0 where
    pub calls : (c : CallData) → letter (Call c) ≤ ordered (order.Cell c)
    pub base_calls : (c : CallData) → letter (BaseCall c) ≤ ordered (order.Base c)
    pub ticks : sends (map tick_to (range_with_len 0 cells)) ≤ ordered order.Tick
    pub reaps : (e : ℕ) → letter (Reap e) ≤ ordered (order.Reap e)

  module _ (pays : OrdersPay) (h : Here) (e : ℕ) (s : AtBase) (i : Option Msg) (t : AtBase) (sent : List (ℕ × Msg)) where
    abbrev IsPaid : Type 0
    IsPaid = total ordered t.orders + sends sent ≤ total ordered s.orders

    -- the first order, and what is sent for it
    paid_by : (o : Order) → s.orders ≡ o ∷ t.orders → (l : List (ℕ × Msg)) → sent ≡ l → sends l ≤ ordered o → IsPaid
    paid_by o at l z less =
        let first : total ordered s.orders ≡ ordered o + total ordered t.orders = ap (total ordered) at in
        let same = ap sends z in
        omega (arith, first, same, less)

    deeds_paid : BaseDeeds h cells e s i t sent → IsPaid
    deeds_paid (base.stays is z) = let orders = ap (total ordered) is in let same = ap sends z in omega (arith, orders, same)
    deeds_paid (base.calls c r n at has z) = let pay = pays.calls c in paid_by _ at _ z (omega (arith, pay))
    deeds_paid (base.base_calls c n at z) = let pay = pays.base_calls c in paid_by _ at _ z (omega (arith, pay))
    deeds_paid (base.serves c n at z) = paid_by _ at _ z (omega arith)
    deeds_paid (base.ticks n at z) = let pay = pays.ticks in paid_by _ at _ z (omega (arith, pay))
    deeds_paid (base.reaps r n at has z) = let pay = pays.reaps e in paid_by _ at _ z (omega (arith, pay))

    pub base_paid : BaseMoves h cells e s i t sent → IsPaid
    base_paid m = deeds_paid (base_deeds m)
