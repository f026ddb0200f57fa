-- What a step does with an entity's base part and the calls to it: the moves of a node with all else left out.
use Rattle.std.specs.Prelude.{◌≡◌, ℕ, ◌<◌, true, List, [], ◌∷◌, ◌⊎◌, Option, None, Some}
use Rattle.std.specs.Ordering.{nat_cmp}
use Rattle.seam_node_steps.specs.Prelude.{OrderView, next_item, after_taking, Call as CallData, Order, order_of, Msg, BaseCall, Update}
use Rattle.seam_node_steps.specs.Prelude.{Here, cell_count, base_of, is_ready, ready_order, PartView, ProxyView, with_order, offered_update}
use Rattle.seam_node_steps.specs.Prelude.{shows_next, is_base_node_of, stray_base_call, stray_update}
use Rattle.seam_law_flow.specs.Prelude.{letters_of, IsSilent, carried_in}
use Rattle.seam_call.specs.declared.order.Order.TheVariants as order
use Rattle.seam_call.specs.declared.shown.Update.{Update as UpdateData}
use Rattle.seam_node_steps.specs.BaseCases.{may_call, with_offer, executed}
use Rattle.seam_law_calls.specs.Sights.{AtBase}

-- the call that a message brings to a base part
abbrev pub base_call_in : Msg → Option CallData
base_call_in (BaseCall c) = Some c
base_call_in _ = None

-- the update that a message brings to a client
abbrev pub update_in : Msg → Option UpdateData
update_in (Update u) = Some u
update_in _ = None

-- the call of a base part that is ordered
abbrev pub base_call_of : Order → Option CallData
base_call_of (order.Base c) = Some c
base_call_of _ = None

-- the calls to the base part among a node's orders
abbrev pub calls_ordered : AtBase → List CallData
calls_ordered b = letters_of base_call_of b.orders

-- the call that comes, if one does
abbrev pub called : Option Msg → Option CallData
called i = carried_in base_call_in i

-- the update that comes, if one does
abbrev pub told : Option Msg → Option UpdateData
told i = carried_in update_in i

-- the part p is q after it was offered the call: executed in its turn, held where it is early, unchanged where it is late
pub data Offered (h : Here) (p : PartView) (c : CallData) (q : PartView) : Type 0 where
  now : c.number ≡ (order_of p.orders c.sender).next → q ≡ with_offer (executed h p c) c → Offered h p c q
  early : (order_of p.orders c.sender).next < c.number → q ≡ with_offer p c → Offered h p c q
  late : c.number < (order_of p.orders c.sender).next → q ≡ p → Offered h p c q

-- a call that comes to a cell, or that the part here may not be offered
abbrev pub Refused : Here → CallData → Option PartView → Type 0
Refused h c o = (h.me < cell_count) ⊎ (stray_base_call h c o ≡ true)

-- the part, if there is one, has no client
abbrev pub HasNoProxy : Option PartView → Type 0
HasNoProxy o = (p : PartView) → o ≡ Some p → p.proxy ≡ None

-- an update that comes to a cell, or to a part without a client, or that the client may not be offered
abbrev pub Missed : Here → UpdateData → Option PartView → Type 0
Missed h u o = (h.me < cell_count) ⊎ (HasNoProxy o ⊎ (stray_update u o ≡ true))

-- a node that has s of entity e's base part is fed i, has t afterwards and sends this about e
pub data PartMoves (h : Here) (e : ℕ) (s : AtBase) (i : Option Msg) (t : AtBase) (sent : List (ℕ × Msg)) : Type 0 where
  -- nothing
  rests : called i ≡ None → told i ≡ None → calls_ordered t ≡ calls_ordered s → t.part ≡ s.part → IsSilent base_call_in sent
      → PartMoves h e s i t sent
  -- a call that comes is stray
  refuses : (c : CallData) → i ≡ Some (BaseCall c) → Refused h c s.part → t ≡ s → IsSilent base_call_in sent → PartMoves h e s i t sent
  -- a call that comes is offered to the part
  offers : (c : CallData) (p q : PartView) → i ≡ Some (BaseCall c) → s.part ≡ Some p → may_call h p c ≡ true → Offered h p c q
      → calls_ordered t ≡ calls_ordered s → t.part ≡ Some q → IsSilent base_call_in sent → PartMoves h e s i t sent
  -- an order: the call goes to the entity's base node
  sends : (c : CallData) (cs : List CallData) → i ≡ None → calls_ordered s ≡ c ∷ cs → calls_ordered t ≡ cs → t.part ≡ s.part
      → sent ≡ (base_of h e, BaseCall c) ∷ [] → PartMoves h e s i t sent
  -- an order: the call is offered to the part, which is here
  serves : (c : CallData) (cs : List CallData) (p q : PartView) → i ≡ None → calls_ordered s ≡ c ∷ cs → s.part ≡ Some p
      → is_base_node_of h e ≡ true → may_call h p c ≡ true → Offered h p c q → calls_ordered t ≡ cs → t.part ≡ Some q
      → IsSilent base_call_in sent → PartMoves h e s i t sent
  -- the part executes a held call
  executes : (p : PartView) (o : ℕ × OrderView CallData) (c : CallData) → i ≡ None → s.part ≡ Some p → ready_order p.orders ≡ Some o
      → next_item o.1 ≡ Some c → calls_ordered t ≡ calls_ordered s
      → t.part ≡ Some (with_order (executed h p c) o.0 (after_taking o.1)) → IsSilent base_call_in sent → PartMoves h e s i t sent
  -- an update that comes is stray, or there is no client
  misses : (u : UpdateData) → i ≡ Some (Update u) → Missed h u s.part → calls_ordered t ≡ calls_ordered s → t.part ≡ s.part
      → IsSilent base_call_in sent → PartMoves h e s i t sent
  -- the client is offered an update
  updates : (u : UpdateData) (p : PartView) (x : ProxyView) → i ≡ Some (Update u) → s.part ≡ Some p → p.proxy ≡ Some x
      → calls_ordered t ≡ calls_ordered s
      → t.part ≡ Some (record p { proxy = Some (offered_update x u (nat_cmp u.number x.updates.next)) }) → IsSilent base_call_in sent
      → PartMoves h e s i t sent
  -- the client is shown an update that it held
  shows : (p : PartView) (x : ProxyView) → i ≡ None → s.part ≡ Some p → p.proxy ≡ Some x → is_ready x.updates ≡ true
      → calls_ordered t ≡ calls_ordered s → t.part ≡ Some (record p { proxy = Some (shows_next x (next_item x.updates)) })
      → IsSilent base_call_in sent → PartMoves h e s i t sent
  -- the entity leaves the world
  ends : (os : List Order) → i ≡ None → s.orders ≡ order.Reap e ∷ os → calls_ordered t ≡ calls_ordered s → t.part ≡ None
      → IsSilent base_call_in sent → PartMoves h e s i t sent
