-- The cases of a base node's step.
use Rattle.std.specs.Prelude.{ℕ, ◌+◌, Bool, true, false, not, ◌&&◌, ◌||◌, ◌==◌, nat_lt, is_some, is_none, List, [], ◌∷◌, ◌++◌, map, find}
use Rattle.std.specs.Prelude.{Option, None, Some}
use Rattle.std.specs.List.{range_with_len}
use Rattle.std.specs.Ordering.{nat_cmp}
use Rattle.std.specs.declared.cmp.Ordering.{Ordering}
use Rattle.std.specs.declared.cmp.Ordering.TheVariants.{Less, Equal, Greater}
use Rattle.std.specs.FinMap as table
use Rattle.seam_defs.specs.declared.flags.Part.TheVariants as part
use Rattle.seam_defs.specs.Deeds.{after}
use Rattle.seam_defs.specs.Tests.{changes}
use Rattle.seam_order.specs.Held.{OrderView}
use Rattle.seam_order.specs.Offers.{next_item, after_offer, after_taking}
use Rattle.seam_machine.specs.Views.{Stepped}
use Rattle.seam_machine.specs.declared.machines.Input.{Input}
use Rattle.seam_machine.specs.declared.machines.Input.TheVariants.{Task, From}
use Rattle.seam_call.specs.declared.call.Call.{Call as CallData}
use Rattle.seam_call.specs.declared.order.Boundaries.{Boundaries}
use Rattle.seam_call.specs.declared.order.Order.{Order}
use Rattle.seam_call.specs.declared.order.Order.TheVariants as order
use Rattle.seam_call.specs.declared.shown.Shown.{Shown}
use Rattle.seam_call.specs.declared.shown.Update.{Update as UpdateData}
use Rattle.seam_call.specs.declared.shown.ClientText.TheVariants as text
use Rattle.seam_call.specs.Senders.{rank_of}
use Rattle.seam_call.specs.Calls.{is_for}
use Rattle.seam_entity.specs.Orders.{order_of}
use Rattle.seam_entity.specs.declared.message.Msg.{Msg}
use Rattle.seam_entity.specs.declared.message.Msg.TheVariants.{Call, BaseCall, Current, Tick, Reap, Update, Bounds}
use Rattle.seam_node_steps.specs.Maps.{has_any}
use Rattle.seam_entity.specs.Numbers.{is_small, may_rise}
use Rattle.seam_entity.specs.Fitting.{can_do}
use Rattle.seam_entity.specs.Here.{Here, cell_count, base_of, type_at}
use Rattle.seam_entity.specs.ReadyCalls.{may_offer, is_ready, has_ready, ready_order}
use Rattle.seam_node_steps.specs.Bases.{BaseView, PartView, ProxyView, RouteView, with_part, with_line, shown_to_client}

abbrev pub sends_none : BaseView → Stepped BaseView Msg
sends_none b = record { state = b; sent = [] }

-- the step of a case, or none at a stray input
abbrev pub unless_stray : Bool → BaseView → Stepped BaseView Msg → Stepped BaseView Msg
unless_stray true b t = sends_none b
unless_stray false b t = t

-- ---- calls of the base part

-- a client's next line has a number
abbrev pub may_show : Option ProxyView → Bool
may_show None = true
may_show (Some x) = may_rise x.last

-- the part may execute a call, and its client be shown a line
abbrev pub may_execute : PartView → Bool
may_execute p = may_rise p.version && may_show p.proxy

-- a call for a base part that fits its type
abbrev pub fits_base_part : Here → ℕ → CallData → Bool
fits_base_part h ty k = is_for part.Base k.entity k && can_do h.settings.size (type_at h ty) part.Base k.deed

-- the part may be offered the call, which fits it
abbrev pub may_call : Here → PartView → CallData → Bool
may_call h p k = fits_base_part h p.ty k && (may_offer (order_of p.orders k.sender) k.number && may_execute p)

-- the part with its state after the deed, one version and one done call more
abbrev pub with_deed : Here → PartView → CallData → PartView
with_deed h p k = record p { state = after (type_at h p.ty) p.state k.deed; version = p.version + 1; done = p.done ++ k ∷ [] }

-- the part after a call that it executes: where the call changed what its client is shown, the client is shown that
abbrev pub executed : Here → PartView → CallData → PartView
executed h p k = shown_to_client (changes (type_at h p.ty) p.state k.deed) h (with_deed h p k)

abbrev pub with_order : PartView → ℕ → OrderView CallData → PartView
with_order p s o = record p { orders = table.insert p.orders s o }

-- the part after its sender's order was offered the call
abbrev pub with_offer : PartView → CallData → PartView
with_offer p k = with_order p (rank_of k.sender) (after_offer (order_of p.orders k.sender) k.number k)

-- the call is executed where it is its turn, held where it is early, and nothing changes where it is late
abbrev pub offered : Here → PartView → CallData → Ordering → PartView
offered h p k Less = p
offered h p k Equal = with_offer (executed h p k) k
offered h p k Greater = with_offer p k

abbrev pub part_called : BaseView → CallData → Option PartView → BaseView
part_called b k None = b
part_called b k (Some p) = with_part b k.entity (offered b.here p k (nat_cmp k.number (order_of p.orders k.sender).next))

-- base call: the call is offered to its sender's order, and executed where it is its turn
abbrev pub base_call : BaseView → CallData → BaseView
base_call b k = part_called b k (table.get b.parts k.entity)

-- a call of a part that is not here or may not be offered it
abbrev pub stray_base_call : Here → CallData → Option PartView → Bool
stray_base_call h k None = true
stray_base_call h k (Some p) = not (may_call h p k)

-- ---- orders: `b` is the node without the order that it executes

abbrev pub on_route : Option RouteView → Msg → List (ℕ × Msg)
on_route None m = []
on_route (Some r) m = (r.cell, m) ∷ []

-- base order: where this is the entity's base node as base call, else the call goes to that node
abbrev pub base_order : Bool → BaseView → CallData → Stepped BaseView Msg
base_order true b k = sends_none (base_call b k)
base_order false b k = record { state = b; sent = (base_of b.here k.entity, BaseCall k) ∷ [] }

abbrev pub is_base_node_of : Here → ℕ → Bool
is_base_node_of h e = base_of h e == h.me

abbrev pub tick_to : ℕ → ℕ × Msg
tick_to k = (k, Tick)

abbrev pub bounds_to : Boundaries → ℕ → ℕ × Msg
bounds_to x k = (k, Bounds x)

-- cell order: the call goes to the route's cell; tick order, bounds order: every cell of the tree is told, in rising number; reap order:
-- the route's cell is told, and the base part goes where it is here, but the route stays
abbrev pub order_of_node : BaseView → Order → Stepped BaseView Msg
order_of_node b (order.Cell k) = record { state = b; sent = on_route (table.get b.routes k.entity) (Call k) }
order_of_node b (order.Base k) = base_order (is_base_node_of b.here k.entity) b k
order_of_node b order.Tick = record { state = b; sent = map tick_to (range_with_len 0 b.cells) }
order_of_node b (order.Bounds x) = record { state = b; sent = map (bounds_to x) (range_with_len 0 b.cells) }
order_of_node b (order.Reap e) =
    record { state = record b { parts = table.remove b.parts e }; sent = on_route (table.get b.routes e) (Reap e) }

-- an order about an entity without a route, or a base order whose call is stray here
abbrev pub stray_order : BaseView → Order → Bool
stray_order b (order.Cell k) = is_none (table.get b.routes k.entity)
stray_order b (order.Base k) = is_base_node_of b.here k.entity && stray_base_call b.here k (table.get b.parts k.entity)
stray_order b (order.Reap e) = is_none (table.get b.routes e)
stray_order b _ = false

-- ---- the task without orders

abbrev pub part_is_ready : ℕ × PartView → Bool
part_is_ready p = has_ready p.1.orders

-- the least base part that has a ready call
abbrev pub ready_part : BaseView → Option (ℕ × PartView)
ready_part b = find part_is_ready (table.entries b.parts)

abbrev pub executes_ready : Here → PartView → ℕ × OrderView CallData → Option CallData → PartView
executes_ready h p o (Some k) = with_order (executed h p k) o.0 (after_taking o.1)
executes_ready h p o None = p

abbrev pub after_ready : Here → PartView → Option (ℕ × OrderView CallData) → PartView
after_ready h p (Some o) = executes_ready h p o (next_item o.1)
after_ready h p None = p

abbrev pub proxy_is_ready : Option ProxyView → Bool
proxy_is_ready None = false
proxy_is_ready (Some x) = is_ready x.updates

abbrev pub client_is_ready : ℕ × PartView → Bool
client_is_ready p = proxy_is_ready p.1.proxy

-- the least base part whose client has a ready update
abbrev pub ready_proxy : BaseView → Option (ℕ × PartView)
ready_proxy b = find client_is_ready (table.entries b.parts)

abbrev pub shows_next : ProxyView → Option Shown → ProxyView
shows_next x None = x
shows_next x (Some s) = with_line (record x { updates = after_taking x.updates }) (text.Shown s)

abbrev pub after_showing : PartView → Option ProxyView → PartView
after_showing p None = p
after_showing p (Some x) = record p { proxy = Some (shows_next x (next_item x.updates)) }

abbrev pub proxy_task : BaseView → Option (ℕ × PartView) → Stepped BaseView Msg
proxy_task b None = sends_none b
proxy_task b (Some p) = unless_stray (not (may_show p.1.proxy)) b (sends_none (with_part b p.0 (after_showing p.1 p.1.proxy)))

-- task without orders: the least base part with a ready call executes the one of its least sender; else the least proxy with a
-- ready update shows it
abbrev pub task_without_orders : BaseView → Option (ℕ × PartView) → Stepped BaseView Msg
task_without_orders b (Some p) =
    unless_stray (not (may_execute p.1)) b (sends_none (with_part b p.0 (after_ready b.here p.1 (ready_order p.1.orders))))
task_without_orders b None = proxy_task b (ready_proxy b)

-- the first order is executed; a stray one stays
abbrev pub base_task : BaseView → List Order → Stepped BaseView Msg
base_task b (o ∷ os) = unless_stray (stray_order b o) b (order_of_node (record b { orders = os }) o)
base_task b [] = task_without_orders b (ready_part b)

-- ---- current

abbrev pub newer_route : Bool → BaseView → ℕ → RouteView → BaseView
newer_route true b e new = record b { routes = table.insert b.routes e new }
newer_route false b e new = b

-- current: the route is replaced where the generation is greater
abbrev pub current : BaseView → ℕ → RouteView → Option RouteView → BaseView
current b e new None = b
current b e new (Some r) = newer_route (nat_lt r.generation new.generation) b e new

-- it names no cell or a number that is not small, or the entity has no route
abbrev pub stray_current : RouteView → Option RouteView → Bool
stray_current new None = true
stray_current new (Some r) = not (nat_lt new.cell cell_count && is_small new.generation)

-- ---- update

abbrev pub offered_update : ProxyView → UpdateData → Ordering → ProxyView
offered_update x u Less = x
offered_update x u Equal = with_line (record x { updates = after_offer x.updates u.number u.shown }) (text.Shown u.shown)
offered_update x u Greater = record x { updates = after_offer x.updates u.number u.shown }

abbrev pub updated_proxy : BaseView → UpdateData → PartView → Option ProxyView → BaseView
updated_proxy b u p None = b
updated_proxy b u p (Some x) = with_part b u.entity (record p { proxy = Some (offered_update x u (nat_cmp u.number x.updates.next)) })

-- update: it is offered to the proxy's order, and shown where it is its turn; nothing happens where there is no proxy
abbrev pub update : BaseView → UpdateData → Option PartView → BaseView
update b u None = b
update b u (Some p) = updated_proxy b u p p.proxy

abbrev pub stray_proxy_update : UpdateData → Option ProxyView → Bool
stray_proxy_update u None = false
stray_proxy_update u (Some x) = not (may_offer x.updates u.number && may_rise x.last)

-- an update that the proxy may not be offered, or whose line would have no number
abbrev pub stray_update : UpdateData → Option PartView → Bool
stray_update u None = false
stray_update u (Some p) = stray_proxy_update u p.proxy

-- ---- all messages

-- stray input at a base node: no case is for the message, or its conditions are not met
abbrev pub is_stray : BaseView → Msg → Bool
is_stray b (BaseCall k) = stray_base_call b.here k (table.get b.parts k.entity)
is_stray b (Current e j g) = stray_current (record { cell = j; generation = g }) (table.get b.routes e)
is_stray b (Update u) = stray_update u (table.get b.parts u.entity)
is_stray b _ = true

-- what a message that is not stray makes of the node
abbrev pub case_of : BaseView → Msg → BaseView
case_of b (BaseCall k) = base_call b k
case_of b (Current e j g) = current b e (record { cell = j; generation = g }) (table.get b.routes e)
case_of b (Update u) = update b u (table.get b.parts u.entity)
case_of b _ = b

-- a base node's step
abbrev pub base_steps : BaseView → Input Msg → Stepped BaseView Msg
base_steps b Task = base_task b b.orders
base_steps b (From a m) = unless_stray (is_stray b m) b (sends_none (case_of b m))

-- the node has a task: an order, a ready call of a base part, or a ready update of a client
abbrev pub base_has_work : BaseView → Bool
base_has_work b = has_any b.orders || (is_some (ready_part b) || is_some (ready_proxy b))
