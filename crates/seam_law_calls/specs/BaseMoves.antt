-- What a base node may do with one entity, a constructor a kind of move.
use Rattle.std.specs.Prelude.{◌≡◌, ℕ, Bool, true, false, ◌&&◌, nat_lt, is_none, if◌then◌else◌, List, [], ◌∷◌, map, Option, None, Some}
use Rattle.std.specs.List.{range_with_len}
use Rattle.std.specs.Ordering.{nat_cmp}
use Rattle.seam_node_steps.specs.Prelude.{OrderView, next_item, after_taking, Call as CallData, Order, order_of, Msg, BaseCall}
use Rattle.seam_node_steps.specs.Prelude.{Current, Reap, Update, Here, base_of, is_ready, has_ready, ready_order}
use Rattle.seam_node_steps.specs.Prelude.{RouteView, PartView, ProxyView, may_show, offered, with_order, after_showing, offered_update}
use Rattle.seam_node_steps.specs.Prelude.{is_base_node_of, tick_to, stray_base_call, stray_current, stray_update}
use Rattle.seam_call.specs.declared.order.Order.TheVariants as order
use Rattle.seam_call.specs.declared.shown.Update.{Update as UpdateData}
use Rattle.seam_entity.specs.declared.message.Msg.TheVariants.{Call}
use Rattle.seam_node_steps.specs.BaseCases.{may_call, may_execute, executed}
use Rattle.seam_law_calls.specs.Sights.{AtBase}

-- stray input, by what the base node has of the entity that it is about
abbrev pub strays_at : Here → AtBase → Msg → Bool
strays_at h s (BaseCall c) = stray_base_call h c s.part
strays_at h s (Current e j g) = stray_current (record { cell = j; generation = g }) s.route
strays_at h s (Update u) = stray_update u s.part
strays_at h s _ = true

-- an order that cannot be executed
abbrev pub is_stuck : Here → AtBase → Order → Bool
is_stuck h s (order.Cell c) = is_none s.route
is_stuck h s (order.Base c) = is_base_node_of h c.entity && stray_base_call h c s.part
is_stuck h s (order.Reap e) = is_none s.route
is_stuck h s _ = false

-- the route of greater generation
abbrev pub newer : RouteView → RouteView → RouteView
newer r new = if nat_lt r.generation new.generation then new else r

-- the part after it was offered a call
abbrev pub part_offered : Here → PartView → CallData → PartView
part_offered h p c = offered h p c (nat_cmp c.number (order_of p.orders c.sender).next)

abbrev pub proxy_updated : PartView → UpdateData → Option ProxyView → PartView
proxy_updated p u None = p
proxy_updated p u (Some x) = record p { proxy = Some (offered_update x u (nat_cmp u.number x.updates.next)) }

-- the part, if there is one, after its client, if there is one, was offered an update
abbrev pub updated : Option PartView → UpdateData → Option PartView
updated None u = None
updated (Some p) u = Some (proxy_updated p u p.proxy)

abbrev pub client_is_ready : Option ProxyView → Bool
client_is_ready None = false
client_is_ready (Some x) = is_ready x.updates

-- a base node that knows of so many cells, which has s of entity e, is fed i, has t afterwards and sends this about e
pub data BaseMoves (h : Here) (cells e : ℕ) (s : AtBase) (i : Option Msg) (t : AtBase) (sent : List (ℕ × Msg)) : Type 0 where
  -- nothing comes and nothing changes
  rests : i ≡ None → t ≡ s → sent ≡ [] → BaseMoves h cells e s i t sent
  -- stray input
  strays : (m : Msg) → i ≡ Some m → strays_at h s m ≡ true → t ≡ s → sent ≡ [] → BaseMoves h cells e s i t sent
  -- a route comes; the newer one is kept
  reroutes : (new r : RouteView) → i ≡ Some (Current e new.cell new.generation) → s.route ≡ Some r → stray_current new (Some r) ≡ false
      → t ≡ record s { route = Some (newer r new) } → sent ≡ [] → BaseMoves h cells e s i t sent
  -- a call is offered to the part
  offers : (c : CallData) (p : PartView) → i ≡ Some (BaseCall c) → c.entity ≡ e → s.part ≡ Some p → may_call h p c ≡ true
      → t ≡ record s { part = Some (part_offered h p c) } → sent ≡ [] → BaseMoves h cells e s i t sent
  -- an update is offered to the client
  updates : (u : UpdateData) → i ≡ Some (Update u) → u.entity ≡ e → stray_update u s.part ≡ false
      → t ≡ record s { part = updated s.part u } → sent ≡ [] → BaseMoves h cells e s i t sent
  -- an order: the call goes to the route's cell
  orders_call : (c : CallData) (os : List Order) (r : RouteView) → i ≡ None → s.orders ≡ order.Cell c ∷ os → c.entity ≡ e
      → s.route ≡ Some r → t ≡ record s { orders = os } → sent ≡ (r.cell, Call c) ∷ [] → BaseMoves h cells e s i t sent
  -- an order: the call goes to the entity's base node
  orders_base_call : (c : CallData) (os : List Order) → i ≡ None → s.orders ≡ order.Base c ∷ os → c.entity ≡ e
      → is_base_node_of h e ≡ false → t ≡ record s { orders = os } → sent ≡ (base_of h e, BaseCall c) ∷ []
      → BaseMoves h cells e s i t sent
  -- an order: the call is offered to the part, which is here
  offers_own : (c : CallData) (os : List Order) (p : PartView) → i ≡ None → s.orders ≡ order.Base c ∷ os → c.entity ≡ e
      → is_base_node_of h e ≡ true → s.part ≡ Some p → may_call h p c ≡ true
      → t ≡ record s { orders = os; part = Some (part_offered h p c) } → sent ≡ [] → BaseMoves h cells e s i t sent
  -- an order: each cell of the tree is told that its witnesses look
  orders_tick : (os : List Order) → i ≡ None → s.orders ≡ order.Tick ∷ os → t ≡ record s { orders = os }
      → sent ≡ map tick_to (range_with_len 0 (cells)) → BaseMoves h cells e s i t sent
  -- an order: the entity leaves the world
  orders_reap : (os : List Order) (r : RouteView) → i ≡ None → s.orders ≡ order.Reap e ∷ os → s.route ≡ Some r
      → t ≡ record s { orders = os; part = None } → sent ≡ (r.cell, Reap e) ∷ [] → BaseMoves h cells e s i t sent
  -- the first order cannot be executed
  stuck_order : (o : Order) (os : List Order) → i ≡ None → s.orders ≡ o ∷ os → is_stuck h s o ≡ true → t ≡ s → sent ≡ []
      → BaseMoves h cells e s i t sent
  -- the part executes a held call
  executes : (p : PartView) (o : ℕ × OrderView CallData) (c : CallData) → i ≡ None → s.part ≡ Some p → may_execute p ≡ true
      → ready_order p.orders ≡ Some o → next_item o.1 ≡ Some c
      → t ≡ record s { part = Some (with_order (executed h p c) o.0 (after_taking o.1)) } → sent ≡ []
      → BaseMoves h cells e s i t sent
  -- a call is ready that the part may not execute
  stuck_part : (p : PartView) → i ≡ None → s.part ≡ Some p → has_ready p.orders ≡ true → may_execute p ≡ false → t ≡ s → sent ≡ []
      → BaseMoves h cells e s i t sent
  -- the client is shown a held update
  shows : (p : PartView) → i ≡ None → s.part ≡ Some p → client_is_ready p.proxy ≡ true → may_show p.proxy ≡ true
      → t ≡ record s { part = Some (after_showing p p.proxy) } → sent ≡ [] → BaseMoves h cells e s i t sent
  -- an update is ready that the client may not be shown
  stuck_client : (p : PartView) → i ≡ None → s.part ≡ Some p → client_is_ready p.proxy ≡ true → may_show p.proxy ≡ false → t ≡ s
      → sent ≡ [] → BaseMoves h cells e s i t sent
