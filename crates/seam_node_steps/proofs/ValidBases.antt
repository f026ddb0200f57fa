-- A base node's step keeps what is true of the node.
use Rattle.std.proofs.Common.{◌≡◌, ℕ, ◌<◌, Bool, true, false, cond, not, ltb, ◌&&◌, List, [], ◌∷◌, Option, None, Some, refl, sym, ap, ◌∙◌}
use Rattle.std.proofs.Common.{arith}
use Rattle.std.specs.Prelude.{nat_lt}
use Rattle.std.specs.Ordering.{nat_cmp, eq_by_cmp}
use Rattle.std.specs.Cmp.{nat_cmp_total}
use Rattle.std.specs.FinMap as table
use Rattle.std.proofs.lemmas.Bool.Decides.{nat_tests}
use Rattle.seam_node_steps.specs.Prelude.{Stepped, Input, Task, From, Call as CallData, Order, Msg, BaseCall, Current}
use Rattle.seam_node_steps.specs.Prelude.{Update, is_small, cell_count, BaseView, PartView, RouteView, ProxyView}
use Rattle.seam_node_steps.specs.Prelude.{IsBase}
use Rattle.seam_call.specs.declared.order.Order.TheVariants as order
use Rattle.seam_call.specs.declared.shown.Update.{Update as UpdateData}
use Rattle.seam_node_steps.specs.BaseCases

-- what no step but that of a Current changes
pub record SameRoutes (b c : BaseView) : Type 0 where
  pub here : c.here ≡ b.here
  pub cells : c.cells ≡ b.cells
  pub routes : c.routes ≡ b.routes
  pub gone : c.gone ≡ b.gone

valid_of : (b c : BaseView) → SameRoutes b c → IsBase b → IsBase c
valid_of b c s is = record {
  bases = let e = ap (λ h. h.settings.bases) s.here in let le = is.bases in omega (arith, e, le);
  cells = let e = s.cells in let le = is.cells in omega (arith, e, le);
  routes = λ e r h. is.routes e r (sym (ap (λ m. table.get m e) s.routes) ∙ h);
}

same : (b : BaseView) → SameRoutes b b
same b = record { here = refl; cells = refl; routes = refl; gone = refl }

unless_same : (d : Bool) (b : BaseView) (t : Stepped BaseView Msg) → SameRoutes b t.state →
    SameRoutes b (BaseCases.unless_stray d b t).state
unless_same true b t s = same b
unless_same false b t s = s

-- ---- current

route_in : (d : Bool) (x r : RouteView) (o : Option RouteView) → cond d (Some x) o ≡ Some r → x.cell < cell_count →
    (o ≡ Some r → r.cell < cell_count) → r.cell < cell_count
route_in true x r o h lt f = let e : x ≡ r = cc in let c = ap (λ y. y.cell) e in omega (arith, c, lt)
route_in false x r o h lt f = f h

cell_is_small : (n : ℕ) (d : Bool) → not (nat_lt n cell_count && d) ≡ false → n < cell_count
cell_is_small n d h = by (ltb n cell_count) refl h
  where
    by : (a : Bool) → ltb n cell_count ≡ a → not (a && d) ≡ false → n < cell_count
    by true t h = grind (arith, nat_tests)
    by false t h = cc

newer_valid : (d : Bool) (b : BaseView) (e : ℕ) (r : RouteView) → r.cell < cell_count → IsBase b → IsBase (BaseCases.newer_route d b e r)
newer_valid true b e r lt is = record {
  bases = is.bases;
  cells = is.cells;
  routes = λ q x h. route_in (eq_by_cmp nat_cmp q e) r x (table.get b.routes q) (sym (table.get-insert nat_cmp_total b.routes e r q) ∙ h) lt
      (is.routes q x);
}
newer_valid false b e r lt is = is

current_valid : (b : BaseView) (e : ℕ) (new : RouteView) (o : Option RouteView) (d : Bool) → BaseCases.stray_current new o ≡ d → IsBase b
    → IsBase (BaseCases.unless_stray d b (BaseCases.sends_none (BaseCases.current b e new o))).state
current_valid b e new o true h is = is
current_valid b e new None false h is = is
current_valid b e new (Some r) false h is = newer_valid _ b e new (cell_is_small new.cell (is_small new.generation) h) is

-- ---- the others

call_same : (b : BaseView) (k : CallData) (o : Option PartView) → SameRoutes b (BaseCases.part_called b k o)
call_same b k None = same b
call_same b k (Some p) = record { here = refl; cells = refl; routes = refl; gone = refl }

base_same : (d : Bool) (b : BaseView) (os : List Order) (k : CallData) →
    SameRoutes b (BaseCases.base_order d (record b { orders = os }) k).state
base_same true b os k =
    let s = call_same (record b { orders = os }) k (table.get b.parts k.entity) in
    record { here = s.here; cells = s.cells; routes = s.routes; gone = s.gone }
base_same false b os k = record { here = refl; cells = refl; routes = refl; gone = refl }

order_same : (b : BaseView) (os : List Order) (o : Order) → SameRoutes b (BaseCases.order_of_node (record b { orders = os }) o).state
order_same b os (order.Cell k) = record { here = refl; cells = refl; routes = refl; gone = refl }
order_same b os (order.Base k) = base_same (BaseCases.is_base_node_of b.here k.entity) b os k
order_same b os order.Tick = record { here = refl; cells = refl; routes = refl; gone = refl }
order_same b os (order.Bounds x) = record { here = refl; cells = refl; routes = refl; gone = refl }
order_same b os (order.Reap e) = record { here = refl; cells = refl; routes = refl; gone = refl }

proxy_same : (b : BaseView) (o : Option (ℕ × PartView)) → SameRoutes b (BaseCases.proxy_task b o).state
proxy_same b None = same b
proxy_same b (Some p) = unless_same _ b _ (record { here = refl; cells = refl; routes = refl; gone = refl })

without_same : (b : BaseView) (o : Option (ℕ × PartView)) → SameRoutes b (BaseCases.task_without_orders b o).state
without_same b (Some p) = unless_same _ b _ (record { here = refl; cells = refl; routes = refl; gone = refl })
without_same b None = proxy_same b (BaseCases.ready_proxy b)

task_same : (b : BaseView) (os : List Order) → SameRoutes b (BaseCases.base_task b os).state
task_same b (o ∷ os) = unless_same _ b _ (order_same b os o)
task_same b [] = without_same b (BaseCases.ready_part b)

updated_same : (b : BaseView) (u : UpdateData) (p : PartView) (o : Option ProxyView) → SameRoutes b (BaseCases.updated_proxy b u p o)
updated_same b u p None = same b
updated_same b u p (Some x) = record { here = refl; cells = refl; routes = refl; gone = refl }

update_same : (b : BaseView) (u : UpdateData) (o : Option PartView) → SameRoutes b (BaseCases.update b u o)
update_same b u None = same b
update_same b u (Some p) = updated_same b u p p.proxy

heard_same : (b : BaseView) (c : BaseView) (d : Bool) → SameRoutes b c →
    SameRoutes b (BaseCases.unless_stray d b (BaseCases.sends_none c)).state
heard_same b c d s = unless_same d b (BaseCases.sends_none c) s

pub base_stays_valid : (b : BaseView) (i : Input Msg) → IsBase b → IsBase (BaseCases.base_steps b i).state
base_stays_valid b Task is = valid_of b _ (task_same b b.orders) is
base_stays_valid b (From a (BaseCall k)) is = valid_of b _ (heard_same b _ _ (call_same b k (table.get b.parts k.entity))) is
base_stays_valid b (From a (Current e j g)) is = current_valid b e (record { cell = j; generation = g }) (table.get b.routes e) _ refl is
base_stays_valid b (From a (Update u)) is = valid_of b _ (heard_same b _ _ (update_same b u (table.get b.parts u.entity))) is
base_stays_valid b (From a _) is = is

-- ---- what the node knows

-- the base node knows the same, as many cells, and who was reaped
pub record SameFrame (b c : BaseView) : Type 0 where
  pub here : c.here ≡ b.here
  pub cells : c.cells ≡ b.cells
  pub gone : c.gone ≡ b.gone

of_routes : (b c : BaseView) → SameRoutes b c → SameFrame b c
of_routes b c s = record { here = s.here; cells = s.cells; gone = s.gone }

newer_frame : (d : Bool) (b : BaseView) (e : ℕ) (r : RouteView) → SameFrame b (BaseCases.newer_route d b e r)
newer_frame true b e r = record { here = refl; cells = refl; gone = refl }
newer_frame false b e r = record { here = refl; cells = refl; gone = refl }

current_frame : (b : BaseView) (e : ℕ) (new : RouteView) (o : Option RouteView) → SameFrame b (BaseCases.current b e new o)
current_frame b e new None = record { here = refl; cells = refl; gone = refl }
current_frame b e new (Some r) = newer_frame _ b e new

unless_frame : (d : Bool) (b : BaseView) (c : BaseView) → SameFrame b c →
    SameFrame b (BaseCases.unless_stray d b (BaseCases.sends_none c)).state
unless_frame true b c s = record { here = refl; cells = refl; gone = refl }
unless_frame false b c s = s

-- a base node's step keeps what the node knows, the number of cells and who was reaped
pub base_frame : (b : BaseView) (i : Input Msg) → SameFrame b (BaseCases.base_steps b i).state
base_frame b Task = of_routes b _ (task_same b b.orders)
base_frame b (From a (BaseCall k)) = of_routes b _ (heard_same b _ _ (call_same b k (table.get b.parts k.entity)))
base_frame b (From a (Current e j g)) =
    unless_frame _ b _ (current_frame b e (record { cell = j; generation = g }) (table.get b.routes e))
base_frame b (From a (Update u)) = of_routes b _ (heard_same b _ _ (update_same b u (table.get b.parts u.entity)))
base_frame b (From a _) = record { here = refl; cells = refl; gone = refl }
