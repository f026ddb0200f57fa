-- A step of a base node lowers the weight.
use Rattle.seam_law_bounds.proofs.Prelude.{sent_of_range_bounds, ◌≡◌, ℕ, ◌+◌, ◌≤◌, Bool, true, false, List, [], ◌∷◌, Option, None, Some}
use Rattle.seam_law_bounds.proofs.Prelude.{refl, sym, ap, ◌∙◌, arith, not, ◌||◌, is_some, option_map, nat_cmp, Ordering, Less, Equal}
use Rattle.seam_law_bounds.proofs.Prelude.{Greater, Stepped, total, Input, Task, From, OrderView, next_item, Call as CallData, Order, Shown}
use Rattle.seam_law_bounds.proofs.Prelude.{ClientText, rank_of, order_of, Msg, BaseCall, Current, Tick, Reap, Update, Here, cell_count}
use Rattle.seam_law_bounds.proofs.Prelude.{ready_order, order_is_ready, has_any, BaseView, PartView, ProxyView, RouteView, with_part}
use Rattle.seam_law_bounds.proofs.Prelude.{line_if, sends_none, may_show, part_called, on_route, base_order, is_base_node_of, order_of_node}
use Rattle.seam_law_bounds.proofs.Prelude.{stray_order, part_is_ready, ready_part, after_ready, proxy_is_ready, client_is_ready}
use Rattle.seam_law_bounds.proofs.Prelude.{ready_proxy, shows_next, proxy_task, task_without_orders, base_task, newer_route, current}
use Rattle.seam_law_bounds.proofs.Prelude.{offered_update, updated_proxy, update, case_of, base_steps, base_has_work, Sizes, settle_weight}
use Rattle.seam_law_bounds.proofs.Prelude.{tick_weight, proxy_weight, part_weight, order_weight, BaseCan, weight_or, sent_weight}
use Rattle.seam_law_bounds.proofs.Prelude.{input_weight, total_of_insert, total_of_remove, sent_of_range, range_bounds, found, unless_stray}
use Rattle.seam_law_bounds.proofs.Prelude.{turn_counts, early_counts, taken_counts, equal_of, greater_of, base_weight}
use Rattle.seam_law_bounds.specs.Weights.{moving_letter_weight}
use Rattle.std.specs.FinMap as table
use Rattle.seam_node_steps.specs.Prelude.{offered, after_showing, Bounds}
use Rattle.seam_call.specs.declared.order.Order.TheVariants as order
use Rattle.seam_call.specs.declared.shown.Update.{Update as UpdateData}
use Rattle.seam_entity.specs.declared.message.Msg.TheVariants.{Call}
use Rattle.seam_node_steps.specs.BaseCases.{may_execute, executed, executes_ready, is_stray}
use Rattle.seam_law_bounds.proofs.Counts.{offer_adds, taking_removes}
use Rattle.seam_law_calls.proofs.Holds.{denied}

-- ---- parts

pub line_weighs : (b : Bool) (text : ClientText) (o : Option ProxyView) →
    weight_or proxy_weight (option_map (line_if b text) o) ≡ weight_or proxy_weight o
line_weighs b text None = refl
line_weighs true text (Some x) = refl
line_weighs false text (Some x) = refl

module _ (h : Here) (p : PartView) (k : CallData) where
  executed_weighs : weight_or proxy_weight (executed h p k).proxy ≡ weight_or proxy_weight p.proxy
  executed_weighs = line_weighs _ _ p.proxy

  offered_weighs : (o : Ordering) → nat_cmp k.number (order_of p.orders k.sender).next ≡ o →
      part_weight (offered h p k o) ≤ part_weight p + 1
  offered_weighs Less is = omega arith
  offered_weighs Equal is =
      let one = turn_counts p.orders (rank_of k.sender) k.number k (equal_of k.number (order_of p.orders k.sender).next is) in
      let two = executed_weighs in
      omega (arith, one, two)
  offered_weighs Greater is =
      let one = early_counts p.orders (rank_of k.sender) k.number k (greater_of k.number (order_of p.orders k.sender).next is) in
      omega (arith, one)

ready_weighs : (h : Here) (p : PartView) (o : ℕ × OrderView CallData) (i : Option CallData) → ready_order p.orders ≡ Some o →
    next_item o.1 ≡ i → is_some i ≡ true → part_weight (executes_ready h p o i) + 1 ≤ part_weight p
ready_weighs h p o None is at some = cc
ready_weighs h p o (Some k) is at some =
    let one = taken_counts p.orders o k is at in
    let two = executed_weighs h p k in
    omega (arith, one, two)

pub after_ready_weighs : (h : Here) (p : PartView) (o : Option (ℕ × OrderView CallData)) → ready_order p.orders ≡ o → is_some o ≡ true →
    part_weight (after_ready h p o) + 1 ≤ part_weight p
after_ready_weighs h p None is some = cc
after_ready_weighs h p (Some o) is some =
    ready_weighs h p o (next_item o.1) is refl (found order_is_ready p.orders o is).1

update_weighs : (x : ProxyView) (u : UpdateData) (o : Ordering) → proxy_weight (offered_update x u o) ≤ proxy_weight x + 1
update_weighs x u Less = omega arith
update_weighs x u Equal = offer_adds x.updates u.number u.shown
update_weighs x u Greater = offer_adds x.updates u.number u.shown

shows_weighs : (x : ProxyView) (i : Option Shown) → next_item x.updates ≡ i → is_some i ≡ true →
    proxy_weight (shows_next x i) + 1 ≤ proxy_weight x
shows_weighs x None at some = cc
shows_weighs x (Some s) at some = let one = taking_removes x.updates s at in omega (arith, one)

pub showing_weighs : (p : PartView) (o : Option ProxyView) → p.proxy ≡ o → proxy_is_ready o ≡ true →
    part_weight (after_showing p o) + 1 ≤ part_weight p
showing_weighs p None is some = cc
showing_weighs p (Some x) is some =
    let one = shows_weighs x (next_item x.updates) refl some in
    let two = ap (weight_or proxy_weight) is in
    omega (arith, one, two)

-- the last boundaries of the round have that number
module _ (z : Sizes) (last : ℕ) where
  abbrev g : ℕ → Msg → ℕ
  g = moving_letter_weight z last

  -- the base node with another part
  part_weighs : (b : BaseView) (e : ℕ) (p q : PartView) → table.get b.parts e ≡ Some p →
      base_weight z (with_part b e q) + part_weight p ≡ base_weight z b + part_weight q
  part_weighs b e p q is =
      let one = total_of_insert part_weight b.parts e q in
      let two = ap (weight_or part_weight) is in
      omega (arith, one, two)

  -- ---- messages

  called_weighs : (b : BaseView) (k : CallData) (o : Option PartView) → table.get b.parts k.entity ≡ o →
      base_weight z (part_called b k o) ≤ base_weight z b + 1
  called_weighs b k None is = omega arith
  called_weighs b k (Some p) is =
      let o = nat_cmp k.number (order_of p.orders k.sender).next in
      let one = part_weighs b k.entity p (offered b.here p k o) is in
      let two = offered_weighs b.here p k o refl in
      omega (arith, one, two)

  updated_weighs : (b : BaseView) (u : UpdateData) (p : PartView) (o : Option ProxyView) → table.get b.parts u.entity ≡ Some p →
      p.proxy ≡ o → base_weight z (updated_proxy b u p o) ≤ base_weight z b + 1
  updated_weighs b u p None is has = omega arith
  updated_weighs b u p (Some x) is has =
      let o = nat_cmp u.number x.updates.next in
      let one = part_weighs b u.entity p (record p { proxy = Some (offered_update x u o) }) is in
      let two = update_weighs x u o in
      let three = ap (weight_or proxy_weight) has in
      omega (arith, one, two, three)

  client_weighs : (b : BaseView) (u : UpdateData) (o : Option PartView) → table.get b.parts u.entity ≡ o →
      base_weight z (update b u o) ≤ base_weight z b + 1
  client_weighs b u None is = omega arith
  client_weighs b u (Some p) is = updated_weighs b u p p.proxy is refl

  route_weighs_by : (d : Bool) (b : BaseView) (e : ℕ) (n : RouteView) → base_weight z (newer_route d b e n) ≡ base_weight z b
  route_weighs_by true b e n = refl
  route_weighs_by false b e n = refl

  route_weighs : (b : BaseView) (e : ℕ) (n : RouteView) (o : Option RouteView) → base_weight z (current b e n o) ≡ base_weight z b
  route_weighs b e n None = refl
  route_weighs b e n (Some r) = route_weighs_by _ b e n

  case_weighs : (b : BaseView) (m : Msg) → base_weight z (case_of b m) + 1 ≤ base_weight z b + g b.here.me m
  case_weighs b (BaseCall k) = let one = called_weighs b k (table.get b.parts k.entity) refl in omega (arith, one)
  case_weighs b (Current e j n) =
      let one = route_weighs b e (record { cell = j; generation = n }) (table.get b.routes e) in
      omega (arith, one)
  case_weighs b (Update u) = let one = client_weighs b u (table.get b.parts u.entity) refl in omega (arith, one)
  case_weighs b _ = omega arith

  letter_weighs_some : (k : ℕ) (m : Msg) → 1 ≤ g k m
  letter_weighs_some k (Call c) = omega arith
  letter_weighs_some k _ = omega arith

  abbrev all_of : Stepped BaseView Msg → ℕ
  all_of t = base_weight z t.state + sent_weight g t.sent

  message_weighs : (d : Bool) (b : BaseView) (m : Msg) →
      all_of (unless_stray d b (sends_none (case_of b m))) + 1 ≤ base_weight z b + g b.here.me m
  message_weighs true b m = let one = letter_weighs_some b.here.me m in omega (arith, one)
  message_weighs false b m = let one = case_weighs b m in omega (arith, one)

  -- ---- orders

  route_sends : (o : Option RouteView) (m : Msg) (n : ℕ) → ((k : ℕ) → g k m ≤ n) → sent_weight g (on_route o m) ≤ n
  route_sends None m n h = omega arith
  route_sends (Some r) m n h = let one = h r.cell in omega (arith, one)

  base_order_weighs : (d : Bool) (b : BaseView) (k : CallData) → all_of (base_order d b k) ≤ base_weight z b + 2
  base_order_weighs true b k = let one = called_weighs b k (table.get b.parts k.entity) refl in omega (arith, one)
  base_order_weighs false b k = omega arith

  order_weighs : (b : BaseView) (o : Order) → b.cells ≤ cell_count → all_of (order_of_node b o) + 1 ≤ base_weight z b + order_weight z o
  order_weighs b (order.Cell k) few =
      let one = route_sends (table.get b.routes k.entity) (Call k) (2 + settle_weight z) (λ j. omega arith) in
      omega (arith, one)
  order_weighs b (order.Base k) few = let one = base_order_weighs (is_base_node_of b.here k.entity) b k in omega (arith, one)
  order_weighs b order.Tick few =
      let one = sent_of_range g (λ k. Tick) 0 b.cells in
      let two = range_bounds (tick_weight z) 0 b.cells cell_count few in
      omega (arith, one, two)
  order_weighs b (order.Bounds x) few =
      let one = sent_of_range_bounds g (λ k. Bounds x) 1 0 b.cells (λ k. omega arith) in
      omega (arith, one, few)
  order_weighs b (order.Reap e) few =
      let one = route_sends (table.get b.routes e) (Reap e) 17 (λ j. omega arith) in
      let two = total_of_remove part_weight b.parts e in
      omega (arith, one, two)

  not_stray : (d : Bool) (b : BaseView) (t : Stepped BaseView Msg) → d ≡ false → unless_stray d b t ≡ t
  not_stray true b t is = cc
  not_stray false b t is = refl

  first_weighs : (b : BaseView) (o : Order) (os : List Order) → BaseCan b → b.cells ≤ cell_count → b.orders ≡ o ∷ os →
      all_of (base_task b (o ∷ os)) + 1 ≤ base_weight z b
  first_weighs b o os can few l =
      let one = order_weighs (record b { orders = os }) o few in
      let two = ap (total (order_weight z)) l in
      let three =
      ap all_of (not_stray (stray_order b o) b (order_of_node (record b { orders = os }) o) (can.orders o os l)) in
      omega (arith, one, two, three)

  -- ---- the task without orders

  proxy_task_weighs : (b : BaseView) (o : Option (ℕ × PartView)) → BaseCan b → ready_proxy b ≡ o → (o ≡ None → ⊥) →
      all_of (proxy_task b o) + 1 ≤ base_weight z b
  proxy_task_weighs b None can f some = absurd (some refl)
  proxy_task_weighs b (Some p) can f some =
      let k = found client_is_ready b.parts p f in
      let one = part_weighs b p.0 p.1 (after_showing p.1 p.1.proxy) k.0 in
      let two = showing_weighs p.1 p.1.proxy refl k.1 in
      let three =
      ap all_of (not_stray (not (may_show p.1.proxy)) b (sends_none (with_part b p.0 (after_showing p.1 p.1.proxy)))
      (denied (may_show p.1.proxy) (can.clients p.0 p.1 k.0 k.1))) in
      omega (arith, one, two, three)

  part_task_weighs : (b : BaseView) (o : Option (ℕ × PartView)) → BaseCan b → ready_part b ≡ o → (o ≡ None → ready_proxy b ≡ None → ⊥) →
      all_of (task_without_orders b o) + 1 ≤ base_weight z b
  part_task_weighs b None can f some = proxy_task_weighs b (ready_proxy b) can refl (some refl)
  part_task_weighs b (Some p) can f some =
      let k = found part_is_ready b.parts p f in
      let new = after_ready b.here p.1 (ready_order p.1.orders) in
      let one = part_weighs b p.0 p.1 new k.0 in
      let two = after_ready_weighs b.here p.1 (ready_order p.1.orders) refl k.1 in
      let three =
      ap all_of (not_stray (not (may_execute p.1)) b (sends_none (with_part b p.0 new))
      (denied (may_execute p.1) (can.parts p.0 p.1 k.0 k.1))) in
      omega (arith, one, two, three)

  task_weighs : (b : BaseView) (os : List Order) → BaseCan b → b.cells ≤ cell_count → b.orders ≡ os →
      (os ≡ [] → ready_part b ≡ None → ready_proxy b ≡ None → ⊥) → all_of (base_task b os) + 1 ≤ base_weight z b
  task_weighs b [] can few l some = part_task_weighs b (ready_part b) can refl (some refl)
  task_weighs b (o ∷ os) can few l some = first_weighs b o os can few l

  works : (b : BaseView) → base_has_work b ≡ true → b.orders ≡ [] → ready_part b ≡ None → ready_proxy b ≡ None → ⊥
  works b w s r l =
      never (sym (ap (λ x. has_any x || (is_some (ready_part b) || is_some (ready_proxy b))) s
      ∙ ap (λ x. is_some x || is_some (ready_proxy b)) r ∙ ap is_some l) ∙ w)
    where
      never : false ≡ true → ⊥
      never e = cc

  pub base_lowers : (b : BaseView) (i : Input Msg) → BaseCan b → b.cells ≤ cell_count → (i ≡ Task → base_has_work b ≡ true) →
      base_weight z (base_steps b i).state + sent_weight g (base_steps b i).sent + 1 ≤ base_weight z b + input_weight g b.here.me i
  base_lowers b Task can few w = let one = task_weighs b b.orders can few refl (works b (w refl)) in omega (arith, one)
  base_lowers b (From a m) can few w = message_weighs (is_stray b m) b m
