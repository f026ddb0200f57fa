-- A base node in the phase of looks: but for the tick that is ordered it sends nothing, and gets no order.
use Rattle.seam_law_clients.proofs.Prelude.{◌≡◌, ℕ, zero, suc, ◌+◌, ◌<◌, ◌≤◌, Bool, true, false, cond, not, List, [], ◌∷◌, map, Option}
use Rattle.seam_law_clients.proofs.Prelude.{None, Some, refl, ap, ◌∙◌, arith, inl, inr, range_with_len, cases_eq, cases_lt, ne_eqb, eq-eqb}
use Rattle.seam_law_clients.proofs.Prelude.{Stepped, items_to, Task, From, Call as CallData, Shown, Msg, BaseCall, Current, Tick, Here}
use Rattle.seam_law_clients.proofs.Prelude.{cell_count, base_of, numbered, BaseView, PartView, ProxyView, RouteView, with_part, sends_none}
use Rattle.seam_law_clients.proofs.Prelude.{part_called, newer_route, current, updated_proxy, update, case_of, ready_part, ready_proxy}
use Rattle.seam_law_clients.proofs.Prelude.{proxy_task, task_without_orders, base_task, base_steps, tick_to, may_show, after_ready}
use Rattle.seam_law_clients.proofs.Prelude.{ready_order, Update as UpdateData, is_stray, may_execute}
use Rattle.std.specs.FinMap as table
use Rattle.seam_node_steps.specs.Prelude.{Update}
use Rattle.seam_node_steps.specs.Prelude.{after_showing}
use Rattle.seam_call.specs.declared.order.Order.TheVariants as order
use Rattle.seam_node_steps.specs.BaseCases.{unless_stray}

-- the step leaves the orders, and sends nothing
abbrev pub IsStill : BaseView → Stepped BaseView Msg → Type 0
IsStill b t = (t.state.orders ≡ b.orders) × (t.sent ≡ [])

stray_by : (s : Bool) (b t : BaseView) → t.orders ≡ b.orders → IsStill b (unless_stray s b (sends_none t))
stray_by true b t h = (refl, refl)
stray_by false b t h = (h, refl)

called_by : (b : BaseView) (k : CallData) (o : Option PartView) → (part_called b k o).orders ≡ b.orders
called_by b k None = refl
called_by b k (Some p) = refl

route_by : (b : BaseView) (e : ℕ) (new : RouteView) (s : Bool) → (newer_route s b e new).orders ≡ b.orders
route_by b e new true = refl
route_by b e new false = refl

current_by : (b : BaseView) (e : ℕ) (new : RouteView) (o : Option RouteView) → (current b e new o).orders ≡ b.orders
current_by b e new None = refl
current_by b e new (Some r) = route_by b e new _

proxy_by : (b : BaseView) (u : UpdateData) (p : PartView) (o : Option ProxyView) → (updated_proxy b u p o).orders ≡ b.orders
proxy_by b u p None = refl
proxy_by b u p (Some x) = refl

update_by : (b : BaseView) (u : UpdateData) (o : Option PartView) → (update b u o).orders ≡ b.orders
update_by b u None = refl
update_by b u (Some p) = proxy_by b u p p.proxy

case_orders : (b : BaseView) (m : Msg) → (case_of b m).orders ≡ b.orders
case_orders b (BaseCall k) = called_by b k (table.get b.parts k.entity)
case_orders b (Current e j g) = current_by b e (record { cell = j; generation = g }) (table.get b.routes e)
case_orders b (Update u) = update_by b u (table.get b.parts u.entity)
case_orders b _ = refl

pub hears_still : (b : BaseView) (a : ℕ) (m : Msg) → IsStill b (base_steps b (From a m))
hears_still b a m = stray_by (is_stray b m) b (case_of b m) (case_orders b m)

proxy_still : (b : BaseView) (o : Option (ℕ × PartView)) → IsStill b (proxy_task b o)
proxy_still b None = (refl, refl)
proxy_still b (Some p) =
    stray_by (not (may_show p.1.proxy)) b (with_part b p.0 (after_showing p.1 p.1.proxy)) refl

idle_still : (b : BaseView) (o : Option (ℕ × PartView)) → IsStill b (task_without_orders b o)
idle_still b None = proxy_still b (ready_proxy b)
idle_still b (Some p) =
    stray_by (not (may_execute p.1)) b (with_part b p.0 (after_ready b.here p.1 (ready_order p.1.orders))) refl

pub task_still : (b : BaseView) → b.orders ≡ [] → IsStill b (base_steps b Task)
task_still b none =
    let t = idle_still b (ready_part b) in
    (ap (λ os. (base_task b os).state.orders) none ∙ t.0, ap (λ os. (base_task b os).sent) none ∙ t.1)

pub tick_sends : (b : BaseView) → b.orders ≡ order.Tick ∷ [] →
    ((base_steps b Task).state.orders ≡ []) × ((base_steps b Task).sent ≡ map tick_to (range_with_len 0 b.cells))
tick_sends b one = (ap (λ os. (base_task b os).state.orders) one, ap (λ os. (base_task b os).sent) one)

-- ---- who gets a tick

pub ticks_before : (k s n : ℕ) → k < s → items_to k (map tick_to (range_with_len s n)) ≡ []
ticks_before k s zero low = refl
ticks_before k s (suc n) low =
    ap (λ b. cond b (Tick ∷ items_to k (map tick_to (range_with_len (s + 1) n))) (items_to k (map tick_to (range_with_len (s + 1) n))))
    (ne_eqb s k (λ is. omega (arith, is, low))) ∙ ticks_before k (s + 1) n (omega (arith, low))

pub ticks_beyond : (k s n : ℕ) → s + n ≤ k → items_to k (map tick_to (range_with_len s n)) ≡ []
ticks_beyond k s zero high = refl
ticks_beyond k s (suc n) high =
    ap (λ b. cond b (Tick ∷ items_to k (map tick_to (range_with_len (s + 1) n))) (items_to k (map tick_to (range_with_len (s + 1) n))))
    (ne_eqb s k (λ is. omega (arith, is, high))) ∙ ticks_beyond k (s + 1) n (omega (arith, high))

pub ticks_within : (k s n : ℕ) → s ≤ k → k < s + n → items_to k (map tick_to (range_with_len s n)) ≡ Tick ∷ []
ticks_within k s zero low high = absurd (omega (arith, low, high))
ticks_within k s (suc n) low high = elim (cases_eq s k) [
  | inl is ↦
      ap (λ b. cond b (Tick ∷ items_to k (map tick_to (range_with_len (s + 1) n))) (items_to k (map tick_to (range_with_len (s + 1) n))))
      (eq-eqb s k is) ∙ ap (λ l. Tick ∷ l) (ticks_before k (s + 1) n (omega (arith, is)))
  | inr other ↦
      ap (λ b. cond b (Tick ∷ items_to k (map tick_to (range_with_len (s + 1) n))) (items_to k (map tick_to (range_with_len (s + 1) n))))
      (ne_eqb s k other) ∙ ticks_within k (s + 1) n (above s k low other) (omega (arith, high))
]
  where
    above : (s k : ℕ) → s ≤ k → (s ≡ k → ⊥) → s + 1 ≤ k
    above s k low other = elim (cases_lt s k) [ inl lt ↦ omega (arith, lt) | inr ge ↦ absurd (other (omega (arith, low, ge))) ]

-- ---- updates go to base nodes

pub updates_away : (k b e n : ℕ) (ss : List Shown) → (b ≡ k → ⊥) → items_to k (numbered b e n ss) ≡ []
updates_away k b e n [] other = refl
updates_away k b e n (s ∷ ss) other =
    ap (λ t. cond t (Update (record { entity = e; number = n + 1; shown = s }) ∷ items_to k (numbered b e (n + 1) ss))
    (items_to k (numbered b e (n + 1) ss))) (ne_eqb b k other) ∙ updates_away k b e (n + 1) ss other

pub base_is_high : (h : Here) (e k : ℕ) → k < cell_count → base_of h e ≡ k → ⊥
base_is_high h e k low is = omega (arith, low, is)
