-- For callers: where no boundaries come, none are sent, and a cell goes by those of the round's start.
use Rattle.std.proofs.Common.{◌≡◌, ℕ, zero, suc, ◌+◌, Bool, true, false, List, [], ◌∷◌, ◌++◌, Option, None, Some, map, not, ap, refl, sym}
use Rattle.std.proofs.Common.{subst}
use Rattle.std.proofs.Common.{◌∙◌, arith}
use Rattle.std.specs.Prelude.{filter_map, nat_lt, ◌==◌, ◌||◌, ◌&&◌}
use Rattle.std.specs.List.{AllByRecursion, range_with_len, cons_option}
use Rattle.std.specs.FinMap as table
use Rattle.std.specs.FinSet as set
use Rattle.std.specs.Ordering.{nat_cmp}
use Rattle.std.specs.declared.cmp.Ordering.{Ordering}
use Rattle.std.specs.declared.cmp.Ordering.TheVariants.{Less, Equal, Greater}
use Rattle.std.proofs.lemmas.Bool.Decides.{nat_tests}
use Rattle.seam_node_steps.specs.Prelude.{Boundaries, at_start, number_in, unless_first, Stepped, Input, Task, From, OrderView, next_item}
use Rattle.seam_node_steps.specs.Prelude.{Order, GhostCopy}
use Rattle.seam_node_steps.specs.Prelude.{Call as CallData, Shown, Cells, order_of, RealView, WitnessView, Msg, Hand, Current, GhostSet}
use Rattle.seam_node_steps.specs.Prelude.{GhostDrop, Tick, Reap, Bounds, BaseCall, Here, ready_order, copy_of_real, executed}
use Rattle.seam_node_steps.specs.Prelude.{executed_ready}
use Rattle.seam_node_steps.specs.Prelude.{shows, Slot, NextPlace, SlotStep, unless_stray, told, told_unless, ghost_message}
use Rattle.seam_node_steps.specs.Prelude.{ghost_messages, home_after, settled_by, settled, about, slot_steps, Known, numbered}
use Rattle.seam_node_steps.specs.Prelude.{look_by, look_task, CellView, cell_hears, cell_steps, cell_task, cell_rests, ready_next}
use Rattle.seam_node_steps.specs.Prelude.{look_next}
use Rattle.seam_node_steps.specs.Prelude.{ready_entity, known_to, slot_of, stepped, boundaries_of, comes_late, listed_if, renewed, ticked}
use Rattle.seam_node_steps.specs.Prelude.{with_part}
use Rattle.seam_node_steps.specs.Prelude.{BaseView, PartView, ProxyView, RouteView, Update, NodeView, node_steps, Cell, Base}
use Rattle.seam_node_steps.specs.Prelude.{stray_hand}
use Rattle.seam_call.specs.declared.order.Order.TheVariants as order
use Rattle.seam_call.specs.declared.shown.Update.{Update as UpdateData}
use Rattle.seam_entity.specs.declared.message.Msg.TheVariants.{Call}
use Rattle.seam_node_steps.specs.CellCases
use Rattle.seam_node_steps.specs.BaseCases as BaseCases
use Rattle.seam_node_steps.specs.Plain.{BringsNone, TellsNone, IsPlain, IsPlainInput}
use Rattle.seam_node_steps.proofs.Peers.{cell_frame}

-- ---- what is sent

abbrev pub SendsNone : List (ℕ × Msg) → Type 0
SendsNone ps = AllByRecursion (λ p. BringsNone p.1) ps

none_more : (ps qs : List (ℕ × Msg)) → SendsNone ps → SendsNone qs → SendsNone (ps ++ qs)
none_more [] qs h k = k
none_more (p ∷ ps) qs h k = (h.0, none_more ps qs h.1 k)

cons_none : (o : Option (ℕ × Msg)) (ps : List (ℕ × Msg)) → ((p : ℕ × Msg) → o ≡ Some p → BringsNone p.1) → SendsNone ps →
    SendsNone (cons_option o ps)
cons_none None ps h k = k
cons_none (Some p) ps h k = (h p refl, k)

chosen_none : (g : ℕ → Option (ℕ × Msg)) (a len : ℕ) → ((k : ℕ) (p : ℕ × Msg) → g k ≡ Some p → BringsNone p.1) →
    SendsNone (filter_map g (range_with_len a len))
chosen_none g a zero h = tt
chosen_none g a (suc len) h = cons_none (g a) (filter_map g (range_with_len (a + 1) len)) (h a) (chosen_none g (a + 1) len h)

mapped_none : (f : ℕ → ℕ × Msg) (a len : ℕ) → ((k : ℕ) → BringsNone (f k).1) → SendsNone (map f (range_with_len a len))
mapped_none f a zero h = tt
mapped_none f a (suc len) h = (h a, mapped_none f (a + 1) len h)

one_none : (k : ℕ) (m : Msg) (p : ℕ × Msg) → Some (k, m) ≡ Some p → BringsNone m → BringsNone p.1
one_none k m p is h = let same : (k, m) ≡ p = cc in subst (λ q. BringsNone q.1) same h

told_none : (k e beat : ℕ) (c : GhostCopy) (now was changed : Bool) (p : ℕ × Msg) →
    told_unless false k (told e beat c now was changed) ≡ Some p → BringsNone p.1
told_none k e beat c true false changed p is = one_none k (GhostSet e beat c) p is refl
told_none k e beat c true true true p is = one_none k (GhostSet e beat c) p is refl
told_none k e beat c true true false p is = cc
told_none k e beat c false true changed p is = one_none k (GhostDrop e beat) p is refl
told_none k e beat c false false changed p is = cc

told_by_none : (b : Bool) (k e beat : ℕ) (c : GhostCopy) (now was changed : Bool) (p : ℕ × Msg) →
    told_unless b k (told e beat c now was changed) ≡ Some p → BringsNone p.1
told_by_none true k e beat c now was changed p is = cc
told_by_none false k e beat c now was changed p is = told_none k e beat c now was changed p is

ghosts_none : (h : Here) (r : RealView) (j : ℕ) (haunts : Cells) (changed : Bool) → SendsNone (ghost_messages h r j haunts changed)
ghosts_none h r j haunts changed =
    chosen_none (ghost_message h r j haunts changed) 0 16
    (λ k p is. told_by_none ((k == h.me) || (k == j)) k r.entity (r.beat + 1) (copy_of_real h r) (set.contains haunts k)
    (set.contains r.haunts k) changed p is)

drop_none : (b : Bool) (k : ℕ) (e beat : ℕ) (p : ℕ × Msg) → CellCases.drop_if b k (GhostDrop e beat) ≡ Some p → BringsNone p.1
drop_none true k e beat p is = one_none k (GhostDrop e beat) p is refl
drop_none false k e beat p is = cc

numbered_none : (b e n : ℕ) (ss : List Shown) → SendsNone (numbered b e n ss)
numbered_none b e n [] = tt
numbered_none b e n (s ∷ ss) = (refl, numbered_none b e (n + 1) ss)

-- ---- a slot, by the boundaries of the round's start

module _ (h : Here) (t : Boundaries) (first : t.number ≡ 0) where
  abbrev Quiet : SlotStep → Type 0
  Quiet x = SendsNone x.sent

  unless_none : (b : Bool) (x : SlotStep) → Quiet x → Quiet (unless_stray b x)
  unless_none true x q = tt
  unless_none false x q = q

  by_none : (b : Bool) (s : Slot) (r : RealView) (changed : Bool) (j : ℕ) → Quiet (settled_by b h t s r changed j)
  by_none true s r changed j = ghosts_none h r h.me _ changed
  by_none false s r changed j = none_more _ _ (ghosts_none h r j _ changed)
      (ap (λ (n : ℕ). unless_first (n == 0) t) first, tt)

  settled_none : (s : Slot) (r : RealView) (changed : Bool) → Quiet (settled h t s r changed)
  settled_none s r changed = by_none _ s r changed (home_after h t.tree r.state.pos)

  offered_none : (s : Slot) (r : RealView) (k : CallData) (o : Ordering) → Quiet (CellCases.offered h t s r k o)
  offered_none s r k Less = tt
  offered_none s r k Equal = settled_none s (executed h r k) (shows h r k)
  offered_none s r k Greater = tt

  passed_none : (k : CallData) (o : Option NextPlace) → Quiet (CellCases.call_next_place k o)
  passed_none k None = tt
  passed_none k (Some n) = (refl, tt)

  call_none : (s : Slot) (k : CallData) (o : Option RealView) → Quiet (CellCases.call h t s k o)
  call_none s k (Some r) = offered_none s r k (nat_cmp k.number (order_of r.orders k.sender).next)
  call_none s k None = passed_none k s.next

  set_none : (s : Slot) (beat : ℕ) (c : GhostCopy) (o : Option RealView) → Quiet (CellCases.ghost_set s beat c o)
  set_none s beat c None = tt
  set_none s beat c (Some r) = tt

  reap_none : (s : Slot) (o : Option RealView) → Quiet (CellCases.reap s o)
  reap_none s (Some r) =
      chosen_none (CellCases.drop_at r) 0 16 (λ k p is. drop_none (set.contains r.haunts k) k r.entity (r.beat + 1) p is)
  reap_none s None = tt

  case_none : (s : Slot) (m : Msg) → Quiet (CellCases.case_of h t s m)
  case_none s (Call k) = call_none s k s.real
  case_none s (Hand r o) = mapped_none (CellCases.current_to h r) 16 h.settings.bases (λ k. refl)
  case_none s (GhostSet e b c) = set_none s b c s.real
  case_none s (GhostDrop e b) = tt
  case_none s (Reap e) = reap_none s s.real
  case_none s _ = tt

  slot_none : (s : Slot) (m : Msg) → Quiet (slot_steps h t s m)
  slot_none s m = unless_none _ _ (case_none s m)

  survey_none : (s : Slot) (o : Option RealView) → Quiet (CellCases.survey_task h t s o)
  survey_none s (Some r) = settled_none s r false
  survey_none s None = tt

  executes_none : (s : Slot) (r : RealView) (o : ℕ × OrderView CallData) (k : Option CallData) →
      Quiet (CellCases.executes_ready h t s r o k)
  executes_none s r o (Some k) = settled_none s (executed_ready h r o k) (shows h r k)
  executes_none s r o None = tt

  ready_in_none : (s : Slot) (r : RealView) (o : Option (ℕ × OrderView CallData)) → Quiet (CellCases.ready_in h t s r o)
  ready_in_none s r (Some o) = executes_none s r o (next_item o.1)
  ready_in_none s r None = tt

  ready_none : (s : Slot) (o : Option RealView) → Quiet (CellCases.ready_call_task h t s o)
  ready_none s (Some r) = ready_in_none s r (ready_order r.orders)
  ready_none s None = tt

  look_by_none : (s : Slot) (r : RealView) (o : Option WitnessView) (known : List Known) → Quiet (look_by h s r o known)
  look_by_none s r (Some w) known = numbered_none _ r.entity w.sent _
  look_by_none s r None known = tt

  look_none : (s : Slot) (o : Option RealView) (known : List Known) → Quiet (look_task h s o known)
  look_none s (Some r) known = look_by_none s r r.witness known
  look_none s None known = tt

-- ---- a cell

not_late_by : (m : Msg) (c : CellView) → c.number ≡ 0 → comes_late c m ≡ false
not_late_by (Hand r b) c first =
    let low : nat_lt (number_in b) c.number ≡ false = grind (arith, nat_tests, first) in
    ap (λ d. d && not (stray_hand c.here c.tree r (table.get c.reals r.entity))) low
not_late_by _ c first = refl

-- what a message about an entity, or about all of them, does to a cell where no boundaries come
abbrev pub plainly : CellView → Msg → Option ℕ → Stepped CellView Msg
plainly c m (Some e) = stepped c e (slot_steps c.here (at_start c.tree) (slot_of c e) m)
plainly c m None = cell_rests (ticked c m)

starts : (c : CellView) → c.number ≡ 0 → boundaries_of c ≡ at_start c.tree
starts c first = λ i. record { tree = c.tree; number = first i }

hears_plainly : (c : CellView) → c.number ≡ 0 → (m : Msg) (o : Option ℕ) → cell_hears c m o ≡ plainly c m o
hears_plainly c first m (Some e) =
    ap (λ b. listed_if b e (stepped c e (slot_steps c.here (boundaries_of c) (slot_of c e) m))) (not_late_by m c first)
    ∙ ap (λ b. stepped c e (slot_steps c.here b (slot_of c e) m)) (starts c first)
hears_plainly c first m None = refl

pub steps_plainly : (c : CellView) → c.number ≡ 0 → (a : ℕ) (m : Msg) → BringsNone m → cell_steps c (From a m) ≡ plainly c m (about m)
steps_plainly c first a m none = ap (λ o. cell_hears (renewed c o) m (about m)) none ∙ hears_plainly c first m (about m)

module _ (c : CellView) (first : c.number ≡ 0) where
  look_next_none : (es : List ℕ) → SendsNone (look_next c es).sent
  look_next_none [] = tt
  look_next_none (e ∷ es) =
      unless_none c.here (boundaries_of c) first _ _
      (look_none c.here (boundaries_of c) first (slot_of c e) (table.get c.reals e) (known_to c e))

  ready_next_none : (o : Option ℕ) → SendsNone (ready_next c o).sent
  ready_next_none (Some e) =
      unless_none c.here (boundaries_of c) first _ _
      (ready_none c.here (boundaries_of c) first (slot_of c e) (table.get c.reals e))
  ready_next_none None = look_next_none c.looks

  task_none : (es : List ℕ) → SendsNone (cell_task c es).sent
  task_none (e ∷ es) =
      unless_none c.here (boundaries_of c) first _ _
      (survey_none c.here (boundaries_of c) first (slot_of c e) (table.get c.reals e))
  task_none [] = ready_next_none (ready_entity c)

  plainly_none : (m : Msg) (o : Option ℕ) → SendsNone (plainly c m o).sent
  plainly_none m (Some e) = slot_none c.here (at_start c.tree) refl (slot_of c e) m
  plainly_none m None = tt

-- ---- a base node

module _ (b : BaseView) where
  unless_sends_none : (d : Bool) (t : Stepped BaseView Msg) → SendsNone t.sent → SendsNone (BaseCases.unless_stray d b t).sent
  unless_sends_none true t h = tt
  unless_sends_none false t h = h

  on_route_none : (o : Option RouteView) (m : Msg) → BringsNone m → SendsNone (BaseCases.on_route o m)
  on_route_none None m h = tt
  on_route_none (Some r) m h = (h, tt)

  base_order_none : (d : Bool) (os : List Order) (k : CallData) → SendsNone (BaseCases.base_order d (record b { orders = os }) k).sent
  base_order_none true os k = tt
  base_order_none false os k = (refl, tt)

  order_none : (os : List Order) (o : Order) → TellsNone o → SendsNone (BaseCases.order_of_node (record b { orders = os }) o).sent
  order_none os (order.Cell k) n = on_route_none (table.get b.routes k.entity) (Call k) refl
  order_none os (order.Base k) n = base_order_none (BaseCases.is_base_node_of b.here k.entity) os k
  order_none os order.Tick n = mapped_none BaseCases.tick_to 0 b.cells (λ k. refl)
  order_none os (order.Bounds x) n = cc
  order_none os (order.Reap e) n = on_route_none (table.get b.routes e) (Reap e) refl

  proxy_none : (o : Option (ℕ × PartView)) → SendsNone (BaseCases.proxy_task b o).sent
  proxy_none None = tt
  proxy_none (Some p) = unless_sends_none (not (BaseCases.may_show p.1.proxy))
      (BaseCases.sends_none (with_part b p.0 (BaseCases.after_showing p.1 p.1.proxy))) tt

  without_none : (o : Option (ℕ × PartView)) → SendsNone (BaseCases.task_without_orders b o).sent
  without_none (Some p) = unless_sends_none (not (BaseCases.may_execute p.1))
      (BaseCases.sends_none (with_part b p.0 (BaseCases.after_ready b.here p.1 (ready_order p.1.orders)))) tt
  without_none None = proxy_none (BaseCases.ready_proxy b)

  base_task_none : (os : List Order) → AllByRecursion TellsNone os → SendsNone (BaseCases.base_task b os).sent
  base_task_none (o ∷ os) n = unless_sends_none (BaseCases.stray_order b o) (BaseCases.order_of_node (record b { orders = os }) o)
      (order_none os o n.0)
  base_task_none [] n = without_none (BaseCases.ready_part b)

-- the orders after a step are those before it, or those without the first
abbrev TellNone : BaseView → Type 0
TellNone b = AllByRecursion TellsNone b.orders

unless_tells : (d : Bool) (b : BaseView) (t : Stepped BaseView Msg) → TellNone b → TellNone t.state →
    TellNone (BaseCases.unless_stray d b t).state
unless_tells true b t h k = h
unless_tells false b t h k = k

called_orders : (b : BaseView) (k : CallData) (o : Option PartView) → (BaseCases.part_called b k o).orders ≡ b.orders
called_orders b k None = refl
called_orders b k (Some p) = refl

route_orders : (d : Bool) (b : BaseView) (e : ℕ) (r : RouteView) → (BaseCases.newer_route d b e r).orders ≡ b.orders
route_orders true b e r = refl
route_orders false b e r = refl

current_orders : (b : BaseView) (e : ℕ) (new : RouteView) (o : Option RouteView) → (BaseCases.current b e new o).orders ≡ b.orders
current_orders b e new None = refl
current_orders b e new (Some r) = route_orders _ b e new

updated_orders : (b : BaseView) (u : UpdateData) (p : PartView) (o : Option ProxyView) → (BaseCases.updated_proxy b u p o).orders ≡ b.orders
updated_orders b u p None = refl
updated_orders b u p (Some x) = refl

update_orders : (b : BaseView) (u : UpdateData) (o : Option PartView) → (BaseCases.update b u o).orders ≡ b.orders
update_orders b u None = refl
update_orders b u (Some p) = updated_orders b u p p.proxy

case_orders : (b : BaseView) (m : Msg) → (BaseCases.case_of b m).orders ≡ b.orders
case_orders b (BaseCall k) = called_orders b k (table.get b.parts k.entity)
case_orders b (Current e j g) = current_orders b e (record { cell = j; generation = g }) (table.get b.routes e)
case_orders b (Update u) = update_orders b u (table.get b.parts u.entity)
case_orders b _ = refl

base_order_tells : (d : Bool) (b : BaseView) (os : List Order) (k : CallData) → AllByRecursion TellsNone os →
    TellNone (BaseCases.base_order d (record b { orders = os }) k).state
base_order_tells true b os k h =
    subst (AllByRecursion TellsNone) (sym (called_orders (record b { orders = os }) k (table.get b.parts k.entity))) h
base_order_tells false b os k h = h

order_tells : (b : BaseView) (os : List Order) (o : Order) → AllByRecursion TellsNone os →
    TellNone (BaseCases.order_of_node (record b { orders = os }) o).state
order_tells b os (order.Base k) h = base_order_tells (BaseCases.is_base_node_of b.here k.entity) b os k h
order_tells b os _ h = h

proxy_tells : (b : BaseView) (o : Option (ℕ × PartView)) → TellNone b → TellNone (BaseCases.proxy_task b o).state
proxy_tells b None h = h
proxy_tells b (Some p) h = unless_tells _ b _ h h

without_tells : (b : BaseView) (o : Option (ℕ × PartView)) → TellNone b → TellNone (BaseCases.task_without_orders b o).state
without_tells b (Some p) h = unless_tells _ b _ h h
without_tells b None h = proxy_tells b (BaseCases.ready_proxy b) h

base_task_tells : (b : BaseView) (os : List Order) → AllByRecursion TellsNone os → TellNone b → TellNone (BaseCases.base_task b os).state
base_task_tells b (o ∷ os) n h = unless_tells (BaseCases.stray_order b o) b _ h (order_tells b os o n.1)
base_task_tells b [] n h = without_tells b (BaseCases.ready_part b) h

-- ---- nodes

pub plain_sent : (s : NodeView) (i : Input Msg) → IsPlain s → IsPlainInput i → SendsNone (node_steps s i).sent
plain_sent (Cell c) Task is fed = task_none c is c.survey
plain_sent (Cell c) (From a m) is fed =
    subst (λ (t : Stepped CellView Msg). SendsNone t.sent) (sym (steps_plainly c is a m fed)) (plainly_none c is m (about m))
plain_sent (Base b) Task is fed = base_task_none b b.orders is
plain_sent (Base b) (From a m) is fed = unless_sends_none b (BaseCases.is_stray b m) (BaseCases.sends_none (BaseCases.case_of b m)) tt

cell_plain : (c : CellView) (i : Input Msg) → c.number ≡ 0 → IsPlainInput i → (cell_steps c i).state.number ≡ 0
cell_plain c Task is fed = (cell_frame c Task).number ∙ is
cell_plain c (From a m) is fed = (cell_frame c (From a m)).number ∙ (ap (λ o. (renewed c o).number) fed ∙ is)

pub plain_state : (s : NodeView) (i : Input Msg) → IsPlain s → IsPlainInput i → IsPlain (node_steps s i).state
plain_state (Cell c) i is fed = cell_plain c i is fed
plain_state (Base b) Task is fed = base_task_tells b b.orders is is
plain_state (Base b) (From a m) is fed =
    unless_tells (BaseCases.is_stray b m) b _ is (subst (AllByRecursion TellsNone) (sym (case_orders b m)) is)

-- a plain input leaves a plain cell its tree
pub plain_tree : (c : CellView) (i : Input Msg) → IsPlainInput i → (cell_steps c i).state.tree ≡ c.tree
plain_tree c Task fed = (cell_frame c Task).tree
plain_tree c (From a m) fed = (cell_frame c (From a m)).tree ∙ ap (λ o. (renewed c o).tree) fed
