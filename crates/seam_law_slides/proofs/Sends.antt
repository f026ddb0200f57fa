-- What a step sends: hand-overs of reals that were settled, boundaries that were to be told, and what brings neither.
use Rattle.std.proofs.Common.{◌≡◌, ℕ, zero, suc, ◌+◌, Bool, true, false, ◌==◌, ◌||◌, List, [], ◌∷◌, ◌++◌, map, not, Option, None, Some}
use Rattle.std.proofs.Common.{refl, subst, sym, ◌∙◌}
use Rattle.std.specs.Prelude.{filter_map}
use Rattle.std.specs.List.{AllByRecursion, range_with_len, cons_option}
use Rattle.std.specs.FinMap as table
use Rattle.std.specs.FinSet as set
use Rattle.std.specs.Ordering.{nat_cmp}
use Rattle.std.specs.declared.cmp.Ordering.{Ordering}
use Rattle.std.specs.declared.cmp.Ordering.TheVariants.{Less, Equal, Greater}
use Rattle.seam_node_steps.specs.Prelude.{Boundaries, Stepped, Input, Task, From, OrderView, next_item, Order, GhostCopy}
use Rattle.seam_node_steps.specs.Prelude.{Call as CallData, Shown, Cells, order_of, RealView, WitnessView, Msg, Hand, Current, GhostSet}
use Rattle.seam_node_steps.specs.Prelude.{GhostDrop, Tick, Reap, Bounds, BaseCall, Here, ready_order, copy_of_real, executed}
use Rattle.seam_node_steps.specs.Prelude.{executed_ready, shows, Slot, NextPlace, SlotStep, unless_stray, told, told_unless}
use Rattle.seam_node_steps.specs.Prelude.{ghost_message, ghost_messages, home_after, settled_by, settled, settled_to, haunts_at, about}
use Rattle.seam_node_steps.specs.Prelude.{slot_steps, Known, numbered, look_by, look_task, CellView, cell_hears, cell_steps, cell_task}
use Rattle.seam_node_steps.specs.Prelude.{ready_next, look_next, ready_entity, known_to, slot_of, stepped, boundaries_of, bounds_in}
use Rattle.seam_node_steps.specs.Prelude.{bounds_ordered, brought, comes_late, listed_if, renewed, with_part, BaseView, PartView}
use Rattle.seam_node_steps.specs.Prelude.{ProxyView, RouteView, Update}
use Rattle.seam_call.specs.declared.order.Order.TheVariants as order
use Rattle.seam_call.specs.declared.shown.Update.{Update as UpdateData}
use Rattle.seam_entity.specs.declared.message.Msg.TheVariants.{Call}
use Rattle.seam_node_steps.specs.CellCases
use Rattle.seam_node_steps.specs.BaseCases as BaseCases
use Rattle.seam_law_calls.specs.Prelude.{real_of}
use Rattle.seam_node_steps.proofs.Peers.{renewed_by}

-- the message brings neither a real nor boundaries
pub record IsBare (m : Msg) : Type 0 where
  pub real : real_of m ≡ None
  pub bounds : bounds_in m ≡ None

module _ (P : ℕ → Msg → Type 0) (bare : (k : ℕ) (m : Msg) → IsBare m → P k m) where
  abbrev pub AllSent : List (ℕ × Msg) → Type 0
  AllSent ps = AllByRecursion (λ p. P p.0 p.1) ps

  plain : (k : ℕ) (m : Msg) → real_of m ≡ None → bounds_in m ≡ None → P k m
  plain k m a b = bare k m (record { real = a; bounds = b })

  all_more : (ps qs : List (ℕ × Msg)) → AllSent ps → AllSent qs → AllSent (ps ++ qs)
  all_more [] qs h k = k
  all_more (p ∷ ps) qs h k = (h.0, all_more ps qs h.1 k)

  cons_sent : (o : Option (ℕ × Msg)) (ps : List (ℕ × Msg)) → ((p : ℕ × Msg) → o ≡ Some p → P p.0 p.1) → AllSent ps →
      AllSent (cons_option o ps)
  cons_sent None ps h k = k
  cons_sent (Some p) ps h k = (h p refl, k)

  chosen_sent : (g : ℕ → Option (ℕ × Msg)) (a len : ℕ) → ((k : ℕ) (p : ℕ × Msg) → g k ≡ Some p → P p.0 p.1) →
      AllSent (filter_map g (range_with_len a len))
  chosen_sent g a zero h = tt
  chosen_sent g a (suc len) h = cons_sent (g a) (filter_map g (range_with_len (a + 1) len)) (h a) (chosen_sent g (a + 1) len h)

  mapped_sent : (g : ℕ → ℕ × Msg) (a len : ℕ) → ((k : ℕ) → P (g k).0 (g k).1) → AllSent (map g (range_with_len a len))
  mapped_sent g a zero h = tt
  mapped_sent g a (suc len) h = (h a, mapped_sent g (a + 1) len h)

  one_sent : (k : ℕ) (m : Msg) (p : ℕ × Msg) → Some (k, m) ≡ Some p → P k m → P p.0 p.1
  one_sent k m p is h = let same : (k, m) ≡ p = cc in subst (λ q. P q.0 q.1) same h

  told_sent : (k e beat : ℕ) (c : GhostCopy) (now was changed : Bool) (p : ℕ × Msg) →
      told_unless false k (told e beat c now was changed) ≡ Some p → P p.0 p.1
  told_sent k e beat c true false changed p is = one_sent k (GhostSet e beat c) p is (plain k (GhostSet e beat c) refl refl)
  told_sent k e beat c true true true p is = one_sent k (GhostSet e beat c) p is (plain k (GhostSet e beat c) refl refl)
  told_sent k e beat c true true false p is = cc
  told_sent k e beat c false true changed p is = one_sent k (GhostDrop e beat) p is (plain k (GhostDrop e beat) refl refl)
  told_sent k e beat c false false changed p is = cc

  told_by_sent : (b : Bool) (k e beat : ℕ) (c : GhostCopy) (now was changed : Bool) (p : ℕ × Msg) →
      told_unless b k (told e beat c now was changed) ≡ Some p → P p.0 p.1
  told_by_sent true k e beat c now was changed p is = cc
  told_by_sent false k e beat c now was changed p is = told_sent k e beat c now was changed p is

  ghosts_sent : (h : Here) (r : RealView) (j : ℕ) (haunts : Cells) (changed : Bool) → AllSent (ghost_messages h r j haunts changed)
  ghosts_sent h r j haunts changed =
      chosen_sent (ghost_message h r j haunts changed) 0 16
      (λ k p is. told_by_sent ((k == h.me) || (k == j)) k r.entity (r.beat + 1) (copy_of_real h r) (set.contains haunts k)
      (set.contains r.haunts k) changed p is)

  drop_sent : (b : Bool) (k : ℕ) (e beat : ℕ) (p : ℕ × Msg) → CellCases.drop_if b k (GhostDrop e beat) ≡ Some p → P p.0 p.1
  drop_sent true k e beat p is = one_sent k (GhostDrop e beat) p is (plain k (GhostDrop e beat) refl refl)
  drop_sent false k e beat p is = cc

  numbered_sent : (b e n : ℕ) (ss : List Shown) → AllSent (numbered b e n ss)
  numbered_sent b e n [] = tt
  numbered_sent b e n (s ∷ ss) = (plain b _ refl refl, numbered_sent b e (n + 1) ss)

  -- ---- a slot, by these boundaries: a real that settled may be sent

  module _ (h : Here) (b : Boundaries) where
    -- the real that is handed over from here to its home j
    abbrev pub gone : RealView → ℕ → RealView
    gone r j = settled_to r (haunts_at h b.tree r.state.pos j (set.insert r.haunts h.me)) (r.beat + 1) (r.generation + 1)

    abbrev pub MayHand : Type 0
    MayHand = (r : RealView) (j : ℕ) → home_after h b.tree r.state.pos ≡ j → P j (Hand (gone r j) (brought b))

    module _ (hand : MayHand) where
      abbrev Sends : SlotStep → Type 0
      Sends x = AllSent x.sent

      unless_sends : (d : Bool) (x : SlotStep) → Sends x → Sends (unless_stray d x)
      unless_sends true x q = tt
      unless_sends false x q = q

      by_sends : (d : Bool) (s : Slot) (r : RealView) (changed : Bool) (j : ℕ) → home_after h b.tree r.state.pos ≡ j →
          Sends (settled_by d h b s r changed j)
      by_sends true s r changed j at = ghosts_sent h r h.me _ changed
      by_sends false s r changed j at = all_more _ _ (ghosts_sent h r j _ changed) (hand r j at, tt)

      settled_sends : (s : Slot) (r : RealView) (changed : Bool) → Sends (settled h b s r changed)
      settled_sends s r changed = by_sends _ s r changed (home_after h b.tree r.state.pos) refl

      offered_sends : (s : Slot) (r : RealView) (k : CallData) (o : Ordering) → Sends (CellCases.offered h b s r k o)
      offered_sends s r k Less = tt
      offered_sends s r k Equal = settled_sends s (executed h r k) (shows h r k)
      offered_sends s r k Greater = tt

      passed_sends : (k : CallData) (o : Option NextPlace) → Sends (CellCases.call_next_place k o)
      passed_sends k None = tt
      passed_sends k (Some n) = (plain n.cell (Call k) refl refl, tt)

      call_sends : (s : Slot) (k : CallData) (o : Option RealView) → Sends (CellCases.call h b s k o)
      call_sends s k (Some r) = offered_sends s r k (nat_cmp k.number (order_of r.orders k.sender).next)
      call_sends s k None = passed_sends k s.next

      set_sends : (s : Slot) (beat : ℕ) (c : GhostCopy) (o : Option RealView) → Sends (CellCases.ghost_set s beat c o)
      set_sends s beat c None = tt
      set_sends s beat c (Some r) = tt

      reap_sends : (s : Slot) (o : Option RealView) → Sends (CellCases.reap s o)
      reap_sends s (Some r) =
          chosen_sent (CellCases.drop_at r) 0 16 (λ k p is. drop_sent (set.contains r.haunts k) k r.entity (r.beat + 1) p is)
      reap_sends s None = tt

      case_sends : (s : Slot) (m : Msg) → Sends (CellCases.case_of h b s m)
      case_sends s (Call k) = call_sends s k s.real
      case_sends s (Hand r o) = mapped_sent (CellCases.current_to h r) 16 h.settings.bases (λ k. plain k _ refl refl)
      case_sends s (GhostSet e n c) = set_sends s n c s.real
      case_sends s (GhostDrop e n) = tt
      case_sends s (Reap e) = reap_sends s s.real
      case_sends s _ = tt

      slot_sends : (s : Slot) (m : Msg) → Sends (slot_steps h b s m)
      slot_sends s m = unless_sends _ _ (case_sends s m)

      survey_sends : (s : Slot) (o : Option RealView) → Sends (CellCases.survey_task h b s o)
      survey_sends s (Some r) = settled_sends s r false
      survey_sends s None = tt

      executes_sends : (s : Slot) (r : RealView) (o : ℕ × OrderView CallData) (k : Option CallData) →
          Sends (CellCases.executes_ready h b s r o k)
      executes_sends s r o (Some k) = settled_sends s (executed_ready h r o k) (shows h r k)
      executes_sends s r o None = tt

      ready_in_sends : (s : Slot) (r : RealView) (o : Option (ℕ × OrderView CallData)) → Sends (CellCases.ready_in h b s r o)
      ready_in_sends s r (Some o) = executes_sends s r o (next_item o.1)
      ready_in_sends s r None = tt

      ready_sends : (s : Slot) (o : Option RealView) → Sends (CellCases.ready_call_task h b s o)
      ready_sends s (Some r) = ready_in_sends s r (ready_order r.orders)
      ready_sends s None = tt

      look_by_sends : (s : Slot) (r : RealView) (o : Option WitnessView) (known : List Known) → Sends (look_by h s r o known)
      look_by_sends s r (Some w) known = numbered_sent _ r.entity w.sent _
      look_by_sends s r None known = tt

      look_sends : (s : Slot) (o : Option RealView) (known : List Known) → Sends (look_task h s o known)
      look_sends s (Some r) known = look_by_sends s r r.witness known
      look_sends s None known = tt

  -- ---- a cell, by its boundaries, or by newer ones that came

  module _ (c : CellView) (hand : MayHand c.here (boundaries_of c)) where
    listed_sends : (d : Bool) (e : ℕ) (t : Stepped CellView Msg) → AllSent t.sent → AllSent (listed_if d e t).sent
    listed_sends true e t h = h
    listed_sends false e t h = h

    look_next_sends : (es : List ℕ) → AllSent (look_next c es).sent
    look_next_sends [] = tt
    look_next_sends (e ∷ es) =
        unless_sends c.here (boundaries_of c) hand _ _
        (look_sends c.here (boundaries_of c) hand (slot_of c e) (table.get c.reals e) (known_to c e))

    ready_next_sends : (o : Option ℕ) → AllSent (ready_next c o).sent
    ready_next_sends (Some e) =
        unless_sends c.here (boundaries_of c) hand _ _
        (ready_sends c.here (boundaries_of c) hand (slot_of c e) (table.get c.reals e))
    ready_next_sends None = look_next_sends c.looks

    task_sends : (es : List ℕ) → AllSent (cell_task c es).sent
    task_sends (e ∷ es) =
        unless_sends c.here (boundaries_of c) hand _ _
        (survey_sends c.here (boundaries_of c) hand (slot_of c e) (table.get c.reals e))
    task_sends [] = ready_next_sends (ready_entity c)

    hears_sends : (m : Msg) (o : Option ℕ) → AllSent (cell_hears c m o).sent
    hears_sends m (Some e) =
        listed_sends (comes_late c m) e (stepped c e (slot_steps c.here (boundaries_of c) (slot_of c e) m))
        (slot_sends c.here (boundaries_of c) hand (slot_of c e) m)
    hears_sends m None = tt

  -- by the cell's boundaries, or by those that a message brings
  pub cell_sends : (c : CellView) (i : Input Msg) → MayHand (renewed_by c i).here (boundaries_of (renewed_by c i)) →
      AllSent (cell_steps c i).sent
  cell_sends c Task hand = task_sends c hand c.survey
  cell_sends c (From a m) hand = hears_sends (renewed c (bounds_in m)) hand m (about m)

  -- ---- a base node: what it is to tell

  abbrev pub MayTell : Order → Type 0
  MayTell o = (x : Boundaries) → bounds_ordered o ≡ Some x → (k : ℕ) → P k (Bounds x)

  module _ (b : BaseView) where
    unless_sends_it : (d : Bool) (t : Stepped BaseView Msg) → AllSent t.sent → AllSent (BaseCases.unless_stray d b t).sent
    unless_sends_it true t h = tt
    unless_sends_it false t h = h

    on_route_sends : (o : Option RouteView) (m : Msg) → real_of m ≡ None → bounds_in m ≡ None → AllSent (BaseCases.on_route o m)
    on_route_sends None m h n = tt
    on_route_sends (Some r) m h n = (plain r.cell m h n, tt)

    base_order_sends : (d : Bool) (os : List Order) (k : CallData) → AllSent (BaseCases.base_order d (record b { orders = os }) k).sent
    base_order_sends true os k = tt
    base_order_sends false os k = (plain _ (BaseCall k) refl refl, tt)

    order_sends : (os : List Order) (o : Order) → MayTell o → AllSent (BaseCases.order_of_node (record b { orders = os }) o).sent
    order_sends os (order.Cell k) n = on_route_sends (table.get b.routes k.entity) (Call k) refl refl
    order_sends os (order.Base k) n = base_order_sends (BaseCases.is_base_node_of b.here k.entity) os k
    order_sends os order.Tick n = mapped_sent BaseCases.tick_to 0 b.cells (λ k. plain k Tick refl refl)
    order_sends os (order.Bounds x) n = mapped_sent (BaseCases.bounds_to x) 0 b.cells (λ k. n x refl k)
    order_sends os (order.Reap e) n = on_route_sends (table.get b.routes e) (Reap e) refl refl

    proxy_sends : (o : Option (ℕ × PartView)) → AllSent (BaseCases.proxy_task b o).sent
    proxy_sends None = tt
    proxy_sends (Some p) = unless_sends_it (not (BaseCases.may_show p.1.proxy))
        (BaseCases.sends_none (with_part b p.0 (BaseCases.after_showing p.1 p.1.proxy))) tt

    without_sends : (o : Option (ℕ × PartView)) → AllSent (BaseCases.task_without_orders b o).sent
    without_sends (Some p) = unless_sends_it (not (BaseCases.may_execute p.1))
        (BaseCases.sends_none (with_part b p.0 (BaseCases.after_ready b.here p.1 (ready_order p.1.orders)))) tt
    without_sends None = proxy_sends (BaseCases.ready_proxy b)

    base_task_sends : (os : List Order) → AllByRecursion MayTell os → AllSent (BaseCases.base_task b os).sent
    base_task_sends (o ∷ os) n =
        unless_sends_it (BaseCases.stray_order b o) (BaseCases.order_of_node (record b { orders = os }) o) (order_sends os o n.0)
    base_task_sends [] n = without_sends (BaseCases.ready_part b)

    pub base_sends : (i : Input Msg) → AllByRecursion MayTell b.orders → AllSent (BaseCases.base_steps b i).sent
    base_sends Task n = base_task_sends b.orders n
    base_sends (From a m) n = unless_sends_it (BaseCases.is_stray b m) (BaseCases.sends_none (BaseCases.case_of b m)) tt

-- ---- the orders after a step are those before it, or those without the first

called_orders : (b : BaseView) (k : CallData) (o : Option PartView) → (BaseCases.part_called b k o).orders ≡ b.orders
called_orders b k None = refl
called_orders b k (Some p) = refl

route_orders : (d : Bool) (b : BaseView) (e : ℕ) (r : RouteView) → (BaseCases.newer_route d b e r).orders ≡ b.orders
route_orders true b e r = refl
route_orders false b e r = refl

current_orders : (b : BaseView) (e : ℕ) (new : RouteView) (o : Option RouteView) → (BaseCases.current b e new o).orders ≡ b.orders
current_orders b e new None = refl
current_orders b e new (Some r) = route_orders _ b e new

updated_orders : (b : BaseView) (u : UpdateData) (p : PartView) (o : Option ProxyView) → (BaseCases.updated_proxy b u p o).orders ≡ b.orders
updated_orders b u p None = refl
updated_orders b u p (Some x) = refl

update_orders : (b : BaseView) (u : UpdateData) (o : Option PartView) → (BaseCases.update b u o).orders ≡ b.orders
update_orders b u None = refl
update_orders b u (Some p) = updated_orders b u p p.proxy

case_orders : (b : BaseView) (m : Msg) → (BaseCases.case_of b m).orders ≡ b.orders
case_orders b (BaseCall k) = called_orders b k (table.get b.parts k.entity)
case_orders b (Current e j g) = current_orders b e (record { cell = j; generation = g }) (table.get b.routes e)
case_orders b (Update u) = update_orders b u (table.get b.parts u.entity)
case_orders b _ = refl

-- an order that is not stray leaves the others
pub order_leaves : (b : BaseView) (os : List Order) (o : Order) → (BaseCases.order_of_node (record b { orders = os }) o).state.orders ≡ os
order_leaves b os (order.Base k) = by (BaseCases.is_base_node_of b.here k.entity)
  where
    by : (d : Bool) → (BaseCases.base_order d (record b { orders = os }) k).state.orders ≡ os
    by true = called_orders (record b { orders = os }) k (table.get b.parts k.entity)
    by false = refl
order_leaves b os (order.Cell k) = refl
order_leaves b os order.Tick = refl
order_leaves b os (order.Bounds x) = refl
order_leaves b os (order.Reap e) = refl

-- a message leaves all, and so does a task where there is none
pub message_leaves : (b : BaseView) (m : Msg) → (BaseCases.unless_stray (BaseCases.is_stray b m) b
    (BaseCases.sends_none (BaseCases.case_of b m))).state.orders ≡ b.orders
message_leaves b m = by (BaseCases.is_stray b m)
  where
    by : (d : Bool) → (BaseCases.unless_stray d b (BaseCases.sends_none (BaseCases.case_of b m))).state.orders ≡ b.orders
    by true = refl
    by false = case_orders b m

pub idle_leaves : (b : BaseView) (o : Option (ℕ × PartView)) → (BaseCases.task_without_orders b o).state.orders ≡ b.orders
idle_leaves b (Some p) = by (not (BaseCases.may_execute p.1))
  where
    by : (d : Bool) → (BaseCases.unless_stray d b
        (BaseCases.sends_none (with_part b p.0 (BaseCases.after_ready b.here p.1 (ready_order p.1.orders))))).state.orders ≡ b.orders
    by true = refl
    by false = refl
idle_leaves b None = shown (BaseCases.ready_proxy b)
  where
    shown_by : (d : Bool) (p : ℕ × PartView) → (BaseCases.unless_stray d b
        (BaseCases.sends_none (with_part b p.0 (BaseCases.after_showing p.1 p.1.proxy)))).state.orders ≡ b.orders
    shown_by true p = refl
    shown_by false p = refl

    shown : (o : Option (ℕ × PartView)) → (BaseCases.proxy_task b o).state.orders ≡ b.orders
    shown None = refl
    shown (Some p) = shown_by (not (BaseCases.may_show p.1.proxy)) p

module _ (R : Order → Type 0) where
  task_orders : (b : BaseView) (os : List Order) → b.orders ≡ os → AllByRecursion R os →
      AllByRecursion R (BaseCases.base_task b os).state.orders
  task_orders b (o ∷ os) at h = by (BaseCases.stray_order b o)
    where
      by : (d : Bool) → AllByRecursion R (BaseCases.unless_stray d b (BaseCases.order_of_node (record b { orders = os }) o)).state.orders
      by true = subst (AllByRecursion R) (sym at) h
      by false = subst (AllByRecursion R) (sym (order_leaves b os o)) h.1
  task_orders b [] at h = subst (AllByRecursion R) (sym (idle_leaves b (BaseCases.ready_part b) ∙ at)) h

  -- what is true of each order stays so
  pub orders_kept : (b : BaseView) (i : Input Msg) → AllByRecursion R b.orders → AllByRecursion R (BaseCases.base_steps b i).state.orders
  orders_kept b Task h = task_orders b b.orders refl h
  orders_kept b (From a m) h = subst (AllByRecursion R) (sym (message_leaves b m)) h
