-- The orders of base nodes only go: what is true of each order at the start is true of each that is left.
use Rattle.seam_law_bounds.proofs.Prelude.{◌≡◌, ℕ, Bool, true, false, List, [], ◌∷◌, Option, None, Some, refl, sym, subst, not}
use Rattle.seam_law_bounds.proofs.Prelude.{AllByRecursion, Stepped, EachNode, Input, Task, From, Call as CallData, Order, Msg, BaseCall}
use Rattle.seam_law_bounds.proofs.Prelude.{Current, Update, BaseView, PartView, ProxyView, RouteView, part_called, base_order}
use Rattle.seam_law_bounds.proofs.Prelude.{is_base_node_of, order_of_node, stray_order, ready_part, ready_proxy, proxy_task}
use Rattle.seam_law_bounds.proofs.Prelude.{task_without_orders, base_task, newer_route, current, updated_proxy, update, case_of, base_steps}
use Rattle.seam_law_bounds.proofs.Prelude.{may_show, NodeView, node_steps, Cell, Base, each_node, unless_stray, EachKeeps, RunsKeep}
use Rattle.seam_law_bounds.proofs.Prelude.{runs_keep}
use Rattle.std.specs.FinMap as table
use Rattle.seam_call.specs.declared.order.Order.TheVariants as order
use Rattle.seam_call.specs.declared.shown.Update.{Update as UpdateData}
use Rattle.seam_node_steps.specs.BaseCases.{is_stray, may_execute}

-- ---- a step keeps the orders, or takes the first

orders_called : (b : BaseView) (k : CallData) (o : Option PartView) → (part_called b k o).orders ≡ b.orders
orders_called b k None = refl
orders_called b k (Some p) = refl

orders_updated : (b : BaseView) (u : UpdateData) (p : PartView) (o : Option ProxyView) → (updated_proxy b u p o).orders ≡ b.orders
orders_updated b u p None = refl
orders_updated b u p (Some x) = refl

orders_client : (b : BaseView) (u : UpdateData) (o : Option PartView) → (update b u o).orders ≡ b.orders
orders_client b u None = refl
orders_client b u (Some p) = orders_updated b u p p.proxy

orders_newer : (d : Bool) (b : BaseView) (e : ℕ) (n : RouteView) → (newer_route d b e n).orders ≡ b.orders
orders_newer true b e n = refl
orders_newer false b e n = refl

orders_current : (b : BaseView) (e : ℕ) (n : RouteView) (o : Option RouteView) → (current b e n o).orders ≡ b.orders
orders_current b e n None = refl
orders_current b e n (Some r) = orders_newer _ b e n

orders_case : (b : BaseView) (m : Msg) → (case_of b m).orders ≡ b.orders
orders_case b (BaseCall k) = orders_called b k (table.get b.parts k.entity)
orders_case b (Current e j g) = orders_current b e _ (table.get b.routes e)
orders_case b (Update u) = orders_client b u (table.get b.parts u.entity)
orders_case b _ = refl

module _ (Ok : Order → Type 0) where
  abbrev pub AllOk : List Order → Type 0
  AllOk os = AllByRecursion Ok os

  unless_ok : (d : Bool) (b : BaseView) (t : Stepped BaseView Msg) → AllOk b.orders → AllOk t.state.orders →
      AllOk (unless_stray d b t).state.orders
  unless_ok true b t h k = h
  unless_ok false b t h k = k

  order_ok : (d : Bool) (b : BaseView) (k : CallData) → AllOk b.orders → AllOk (base_order d b k).state.orders
  order_ok true b k h = subst AllOk (sym (orders_called b k (table.get b.parts k.entity))) h
  order_ok false b k h = h

  node_order_ok : (b : BaseView) (o : Order) → AllOk b.orders → AllOk (order_of_node b o).state.orders
  node_order_ok b (order.Base k) h = order_ok (is_base_node_of b.here k.entity) b k h
  node_order_ok b _ h = h

  proxy_ok : (b : BaseView) (o : Option (ℕ × PartView)) → AllOk b.orders → AllOk (proxy_task b o).state.orders
  proxy_ok b None h = h
  proxy_ok b (Some p) h = unless_ok (not (may_show p.1.proxy)) b _ h h

  part_ok : (b : BaseView) (o : Option (ℕ × PartView)) → AllOk b.orders → AllOk (task_without_orders b o).state.orders
  part_ok b None h = proxy_ok b (ready_proxy b) h
  part_ok b (Some p) h = unless_ok (not (may_execute p.1)) b _ h h

  task_ok : (b : BaseView) (os : List Order) → b.orders ≡ os → AllOk b.orders → AllOk (base_task b os).state.orders
  task_ok b [] is h = part_ok b (ready_part b) h
  task_ok b (o ∷ os) is h =
      unless_ok (stray_order b o) b _ h (node_order_ok (record b { orders = os }) o (subst AllOk is h).1)

  base_ok : (b : BaseView) (i : Input Msg) → AllOk b.orders → AllOk (base_steps b i).state.orders
  base_ok b Task h = task_ok b b.orders refl h
  base_ok b (From a m) h = unless_ok (is_stray b m) b _ h (subst AllOk (sym (orders_case b m)) h)

  abbrev pub OrdersAre : NodeView → Type 0
  OrdersAre (Cell c) = Unit {0}
  OrdersAre (Base b) = AllOk b.orders

  orders_step : (s : NodeView) (i : Input Msg) → OrdersAre s → OrdersAre (node_steps s i).state
  orders_step (Cell c) i h = tt
  orders_step (Base b) i h = base_ok b i h

  pub orders_happen : EachKeeps (λ x. EachNode (λ k s. OrdersAre s) x.nodes)
  orders_happen w v o each =
      each_node (λ k s. OrdersAre s) node_steps w v o each (orders_step o.node o.input (each v.node o.node o.is_node))

  pub orders_lead : RunsKeep (λ x. EachNode (λ k s. OrdersAre s) x.nodes)
  orders_lead = runs_keep (λ x. EachNode (λ k s. OrdersAre s) x.nodes) orders_happen
