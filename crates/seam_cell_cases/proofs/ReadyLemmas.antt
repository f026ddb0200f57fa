-- A real that has a ready call, and what the call makes of it.
use Rattle.std.proofs.Common.{◌≡◌, ℕ, true, false, is_some, Option, None, Some, refl, ap, sym, subst, ◌∙◌}
use Rattle.seam_table.proofs.Found.{found}
use Rattle.seam_node_steps.specs.Prelude.{Boundaries, OrderView, next_item, Call as CallData, Here, RealView, order_is_ready, ready_order}
use Rattle.seam_node_steps.specs.Prelude.{has_ready, may_execute, executed_ready, shows, HasReady, Slot, settled, ready_call_task, ready_in}
use Rattle.seam_node_steps.specs.Prelude.{executes_ready}
use Rattle.seam_cell_parts.specs.Stepping.{IsLater}
use Rattle.seam_cell_cases.proofs.CallLemmas.{CanSettle, RisesLater, can_settle}

-- the order and the call of the real's least sender that has a ready call
pub record Readied (r : RealView) : Type 0 where
  pub order : ℕ × OrderView CallData
  pub call : CallData
  pub is : HasReady r order call

called_by : (r : RealView) (o : ℕ × OrderView CallData) (k : Option CallData) → ready_order r.orders ≡ Some o → next_item o.1 ≡ k →
    is_some k ≡ true → Readied r
called_by r o None at is t = let not : false ≡ true = t in cc
called_by r o (Some k) at is t = record { order = o; call = k; is = record { order = at; call = is } }

ordered_by : (r : RealView) (o : Option (ℕ × OrderView CallData)) → ready_order r.orders ≡ o → is_some o ≡ true → Readied r
ordered_by r None at t = let not : false ≡ true = t in cc
ordered_by r (Some o) at t = called_by r o (next_item o.1) at refl (found order_is_ready r.orders o at).1

pub readied : (r : RealView) → has_ready r.orders ≡ true → Readied r
readied r t = ordered_by r (ready_order r.orders) refl t

pub same_ready : (r q : RealView) (o : ℕ × OrderView CallData) (k : CallData) → q ≡ r → HasReady r o k → HasReady q o k
same_ready r q o k same is = subst (λ x. HasReady x o k) (sym same) is

pub ready_later : (h : Here) (r q : RealView) (o : ℕ × OrderView CallData) (k : CallData) → q ≡ r → IsLater q (executed_ready h r o k)
ready_later h r q o k same = record {
  entity = ap (λ x. x.entity) (sym same);
  haunts = ap (λ x. x.haunts) (sym same);
  beat = ap (λ x. x.beat) (sym same);
}

pub ready_rises : (h : Here) (r q : RealView) (o : ℕ × OrderView CallData) (k : CallData) → may_execute r ≡ true →
    q ≡ executed_ready h r o k → RisesLater q
ready_rises h r q o k may same =
    let can = can_settle r may in
    subst RisesLater (sym same) (record { beat = can.beat; generation = can.generation })

pub same_settle : (r q : RealView) → may_execute r ≡ true → q ≡ r → CanSettle q
same_settle r q may same = subst CanSettle (sym same) (can_settle r may)

-- the task is the settling of the real after that call
pub task_is : (h : Here) (t : Boundaries) (s : Slot) (r : RealView) (o : ℕ × OrderView CallData) (k : CallData) → HasReady r o k →
    ready_call_task h t s (Some r) ≡ settled h t s (executed_ready h r o k) (shows h r k)
task_is h t s r o k is = ap (ready_in h t s r) is.order ∙ ap (executes_ready h t s r o) is.call
