-- A task of a base node is, for each entity, one of the moves.
use Rattle.seam_law_calls.proofs.Prelude.{◌≡◌, ℕ, ◌⊎◌, Bool, true, false, not, ◌&&◌, List, [], ◌∷◌, map, is_none, Option, None, Some, refl}
use Rattle.seam_law_calls.proofs.Prelude.{sym, ap, ◌∙◌, subst, inl, inr, AllByRecursion, range_with_len, cases_eq, found, OrderView}
use Rattle.seam_law_calls.proofs.Prelude.{next_item, Stepped, Call as CallData, Order, Msg, BaseCall, Reap, base_of, about, has_ready}
use Rattle.seam_law_calls.proofs.Prelude.{ready_order, BaseView, RouteView, PartView, ProxyView, with_part, may_show, after_ready}
use Rattle.seam_law_calls.proofs.Prelude.{after_showing, is_base_node_of, tick_to, on_route, stray_base_call, stray_order, order_of_node}
use Rattle.seam_law_calls.proofs.Prelude.{base_order, base_task, task_without_orders, proxy_task, ready_part, ready_proxy, part_is_ready}
use Rattle.seam_law_calls.proofs.Prelude.{client_is_ready, sends_none, concerns, concerning, order_about, orders_of, AtBase, at_base}
use Rattle.seam_law_calls.proofs.Prelude.{is_stuck, part_offered, BaseMoves, may_execute, executes_ready, unless_stray}
use Rattle.std.specs.FinMap as table
use Rattle.seam_call.specs.declared.order.Order.TheVariants as order
use Rattle.seam_entity.specs.declared.message.Msg.TheVariants.{Call}
use Rattle.seam_node_steps.specs.BaseCases
use Rattle.seam_node_steps.specs.BaseCases.{may_call}
use Rattle.seam_law_calls.specs.BaseMoves as move
use Rattle.seam_law_calls.proofs.Lists.{AllAbout, all_pass, concerned_own, concerned_other, concerning_own, concerning_other, orders_own}
use Rattle.seam_law_calls.proofs.Lists.{orders_other}
use Rattle.seam_law_calls.proofs.BaseSteps.{gone_own, gone_other, at_same, part_own, part_other}
use Rattle.seam_node_steps.specs.Prelude.{TellsNone}
use Rattle.seam_law_calls.proofs.Holds.{not_false}

module _ (e : ℕ) (b : BaseView) where
  abbrev s : AtBase
  s = at_base e b

  abbrev Goal : Stepped BaseView Msg → Type 0
  Goal x = BaseMoves b.here b.cells e s None (at_base e x.state) (concerning e x.sent)

  -- ---- orders

  module _ (os : List Order) where
    abbrev d : BaseView
    d = record b { orders = os }

    route_moves : (c : CallData) (o : Option RouteView) → s.orders ≡ order.Cell c ∷ orders_of e os → c.entity ≡ e →
        table.get b.routes e ≡ o →
        is_none o ≡ false → Goal (record { state = d; sent = on_route o (Call c) })
    route_moves c None at is has sound = cc
    route_moves c (Some r) at is has sound =
        move.orders_call c (orders_of e os) r refl at is has refl (concerning_own e ((r.cell, Call c) ∷ []) (ap Some is, tt))

    own_part : (p : PartView) (x : ℕ) → x ≡ e → at_base e (with_part d x p) ≡ record s { orders = orders_of e os; part = Some p }
    own_part p x is = ap (λ z. at_base e (with_part d z p)) is ∙ part_own e d p

    called_moves : (c : CallData) (o : Option PartView) → s.orders ≡ order.Base c ∷ orders_of e os → c.entity ≡ e →
        is_base_node_of b.here e ≡ true → table.get b.parts e ≡ o → stray_base_call b.here c o ≡ false →
        Goal (sends_none (BaseCases.part_called d c o))
    called_moves c None at is here has sound = cc
    called_moves c (Some p) at is here has sound =
        move.offers_own c (orders_of e os) p refl at is here has (not_false (may_call b.here p c) sound)
        (own_part (part_offered b.here p c) c.entity is) refl

    base_by : (c : CallData) (t : Bool) → s.orders ≡ order.Base c ∷ orders_of e os → c.entity ≡ e → is_base_node_of b.here c.entity ≡ t →
        (t && stray_base_call b.here c (table.get b.parts c.entity)) ≡ false → Goal (base_order t d c)
    base_by c true at is here sound =
        called_moves c (table.get b.parts c.entity) at is (sym (ap (is_base_node_of b.here) is) ∙ here)
        (sym (ap (table.get b.parts) is)) sound
    base_by c false at is here sound =
        move.orders_base_call c (orders_of e os) refl at is (sym (ap (is_base_node_of b.here) is) ∙ here) refl
        (concerning_own e ((base_of b.here c.entity, BaseCall c) ∷ []) (ap Some is, tt)
        ∙ ap (λ z. (base_of b.here z, BaseCall c) ∷ []) is)

    reap_moves : (x : ℕ) (o : Option RouteView) → s.orders ≡ order.Reap x ∷ orders_of e os → x ≡ e → table.get b.routes e ≡ o →
        is_none o ≡ false → Goal (record { state = record d { parts = table.remove b.parts x }; sent = on_route o (Reap x) })
    reap_moves x None at is has sound = cc
    reap_moves x (Some r) at is has sound =
        move.orders_reap (orders_of e os) r refl (at ∙ ap (λ z. order.Reap z ∷ orders_of e os) is) has
        (at_same _ _ _ _ _ _ refl refl (ap (λ z. table.get (table.remove b.parts z) e) is ∙ gone_own b.parts e))
        (concerning_own e ((r.cell, Reap x) ∷ []) (ap Some is, tt) ∙ ap (λ z. (r.cell, Reap z) ∷ []) is)

    ticks_concern : (ks : List ℕ) → AllByRecursion (λ p. concerns e p.1 ≡ true) (map tick_to ks)
    ticks_concern [] = tt
    ticks_concern (k ∷ ks) = (refl, ticks_concern ks)

    own_order : (o : Order) → s.orders ≡ o ∷ orders_of e os → order_about o ≡ Some e → stray_order b o ≡ false → Goal (order_of_node d o)
    own_order (order.Cell c) at is sound =
        let same : c.entity ≡ e = cc in
        route_moves c (table.get b.routes c.entity) at same (sym (ap (table.get b.routes) same)) sound
    own_order (order.Base c) at is sound =
        let same : c.entity ≡ e = cc in
        base_by c (is_base_node_of b.here c.entity) at same refl sound
    own_order order.Tick at is sound = cc
    own_order (order.Bounds x) at is sound = cc
    own_order (order.Reap x) at is sound =
        let same : x ≡ e = cc in
        reap_moves x (table.get b.routes x) at same (sym (ap (table.get b.routes) same)) sound

    tick_order : s.orders ≡ order.Tick ∷ orders_of e os → Goal (order_of_node d order.Tick)
    tick_order at =
        move.orders_tick (orders_of e os) refl at refl
        (all_pass (λ p. concerns e p.1) (map tick_to (range_with_len 0 b.cells)) (ticks_concern (range_with_len 0 b.cells)))

    stuck_is : (o : Order) → order_about o ≡ Some e → stray_order b o ≡ true → is_stuck b.here s o ≡ true
    stuck_is (order.Cell c) is h =
        let same : c.entity ≡ e = cc in
        sym (ap (λ z. is_none (table.get b.routes z)) same) ∙ h
    stuck_is (order.Base c) is h =
        let same : c.entity ≡ e = cc in
        sym (ap (λ z. is_base_node_of b.here c.entity && stray_base_call b.here c (table.get b.parts z)) same) ∙ h
    stuck_is order.Tick is h = cc
    stuck_is (order.Bounds x) is h = cc
    stuck_is (order.Reap x) is h =
        let same : x ≡ e = cc in
        sym (ap (λ z. is_none (table.get b.routes z)) same) ∙ h

    own_by : (o : Order) (t : Bool) → b.orders ≡ o ∷ os → order_about o ≡ Some e → stray_order b o ≡ t →
        Goal (unless_stray t b (order_of_node d o))
    own_by o true at is h =
        let first = ap (orders_of e) at ∙ orders_own e o os (concerned_own e (order_about o) is) in
        move.stuck_order o (orders_of e os) refl first (stuck_is o is h) refl refl
    own_by o false at is h = own_order o (ap (orders_of e) at ∙ orders_own e o os (concerned_own e (order_about o) is)) is h

    -- ---- orders about others

    silent_route : (x : ℕ) (o : Option RouteView) (m : Msg) → about m ≡ Some x → AllAbout x (on_route o m)
    silent_route x None m a = tt
    silent_route x (Some r) m a = (a, tt)

    -- the entity is left as it is, and the sends are about another
    record IsAway (x : ℕ) (v : Stepped BaseView Msg) : Type 0 where
      state : at_base e v.state ≡ at_base e d
      sent : AllAbout x v.sent

    away_base : (c : CallData) (t : Bool) (x : ℕ) → c.entity ≡ x → (x ≡ e → ⊥) → IsAway x (base_order t d c)
    away_base c true x is n = record { state = away_call (table.get b.parts c.entity); sent = tt }
      where
        away_call : (o : Option PartView) → at_base e (BaseCases.part_called d c o) ≡ at_base e d
        away_call None = refl
        away_call (Some p) = part_other e d c.entity _ (λ q. n (sym is ∙ q))
    away_base c false x is n = record { state = refl; sent = (ap Some is, tt) }

    away : (o : Order) (x : ℕ) → order_about o ≡ Some x → (x ≡ e → ⊥) → IsAway x (order_of_node d o)
    away (order.Cell c) x is n = record { state = refl; sent = silent_route x (table.get b.routes c.entity) (Call c) is }
    away (order.Base c) x is n =
        let same : c.entity ≡ x = cc in
        away_base c (is_base_node_of b.here c.entity) x same n
    away order.Tick x is n = cc
    away (order.Bounds y) x is n = cc
    away (order.Reap y) x is n =
        let same : y ≡ x = cc in
        record {
          state = at_same _ _ _ _ _ _ refl refl (gone_other b.parts y e (λ q. n (sym same ∙ q)));
          sent = silent_route x (table.get b.routes y) (Reap y) is;
        }

    other_by : (o : Order) (x : ℕ) (t : Bool) → b.orders ≡ o ∷ os → order_about o ≡ Some x → (x ≡ e → ⊥) →
        Goal (unless_stray t b (order_of_node d o))
    other_by o x true at is n = move.rests refl refl refl
    other_by o x false at is n =
        let k = away o x is n in
        let rest = ap (orders_of e) at ∙ orders_other e o os (concerned_other e x (order_about o) is n) in
        move.rests refl (k.state ∙ at_same _ _ _ _ _ _ (sym rest) refl refl) (concerning_other e x (order_of_node d o).sent k.sent n)

    order_at : (o : Order) (x : ℕ) → b.orders ≡ o ∷ os → order_about o ≡ Some x → (x ≡ e) ⊎ (x ≡ e → ⊥) → Goal (base_task b (o ∷ os))
    order_at o x at is (inl same) = own_by o (stray_order b o) at (is ∙ ap Some same) refl
    order_at o x at is (inr n) = other_by o x (stray_order b o) at is n

    order_moves : (o : Order) → TellsNone o → b.orders ≡ o ∷ os → Goal (base_task b (o ∷ os))
    order_moves (order.Bounds x) none at = cc
    order_moves (order.Cell c) none at = order_at (order.Cell c) c.entity at refl (cases_eq c.entity e)
    order_moves (order.Base c) none at = order_at (order.Base c) c.entity at refl (cases_eq c.entity e)
    order_moves order.Tick none at = tick_order (ap (orders_of e) at ∙ orders_own e order.Tick os refl)
    order_moves (order.Reap x) none at = order_at (order.Reap x) x at refl (cases_eq x e)

  -- ---- the task without orders

  -- a part that is put back as it was
  put_back : (p : PartView) → table.get b.parts e ≡ Some p → at_base e (with_part b e p) ≡ s
  put_back p has = part_own e b p ∙ at_same _ _ _ _ _ _ refl refl (sym has)

  item_moves : (p : PartView) (o : ℕ × OrderView CallData) (c : Option CallData) → table.get b.parts e ≡ Some p → may_execute p ≡ true →
      ready_order p.orders ≡ Some o → next_item o.1 ≡ c → Goal (sends_none (with_part b e (executes_ready b.here p o c)))
  item_moves p o (Some c) has may at item =
      move.executes p o c refl has may at item (part_own e b (executes_ready b.here p o (Some c))) refl
  item_moves p o None has may at item = move.rests refl (put_back p has) refl

  turn_moves : (p : PartView) (o : Option (ℕ × OrderView CallData)) → table.get b.parts e ≡ Some p → may_execute p ≡ true →
      ready_order p.orders ≡ o → Goal (sends_none (with_part b e (after_ready b.here p o)))
  turn_moves p (Some o) has may at = item_moves p o (next_item o.1) has may at refl
  turn_moves p None has may at = move.rests refl (put_back p has) refl

  part_by : (p : PartView) (t : Bool) → table.get b.parts e ≡ Some p → has_ready p.orders ≡ true → may_execute p ≡ t →
      Goal (unless_stray (not t) b (sends_none (with_part b e (after_ready b.here p (ready_order p.orders)))))
  part_by p true has is may = turn_moves p (ready_order p.orders) has may refl
  part_by p false has is may = move.stuck_part p refl has is may refl refl

  -- another part is changed
  other_part : (t : Bool) (x : ℕ) (p : PartView) → (x ≡ e → ⊥) → Goal (unless_stray t b (sends_none (with_part b x p)))
  other_part true x p n = move.rests refl refl refl
  other_part false x p n = move.rests refl (part_other e b x p n) refl

  part_at : (p : ℕ × PartView) → ready_part b ≡ Some p → (p.0 ≡ e) ⊎ (p.0 ≡ e → ⊥) → Goal (task_without_orders b (Some p))
  part_at p at (inl is) =
      let k = found part_is_ready b.parts p at in
      subst (λ x. Goal
      (unless_stray (not (may_execute p.1)) b (sends_none (with_part b x (after_ready b.here p.1 (ready_order p.1.orders)))))) (sym is)
      (part_by p.1 (may_execute p.1) (sym (ap (table.get b.parts) is) ∙ k.0) k.1 refl)
  part_at p at (inr n) = other_part (not (may_execute p.1)) p.0 (after_ready b.here p.1 (ready_order p.1.orders)) n

  client_ready : (o : Option ProxyView) → BaseCases.proxy_is_ready o ≡ true → move.client_is_ready o ≡ true
  client_ready None is = is
  client_ready (Some x) is = is

  show_by : (p : PartView) (t : Bool) → table.get b.parts e ≡ Some p → BaseCases.proxy_is_ready p.proxy ≡ true → may_show p.proxy ≡ t →
      Goal (unless_stray (not t) b (sends_none (with_part b e (after_showing p p.proxy))))
  show_by p true has is may = move.shows p refl has (client_ready p.proxy is) may (part_own e b (after_showing p p.proxy)) refl
  show_by p false has is may = move.stuck_client p refl has (client_ready p.proxy is) may refl refl

  show_at : (p : ℕ × PartView) → ready_proxy b ≡ Some p → (p.0 ≡ e) ⊎ (p.0 ≡ e → ⊥) → Goal (proxy_task b (Some p))
  show_at p at (inl is) =
      let k = found client_is_ready b.parts p at in
      subst (λ x. Goal (unless_stray (not (may_show p.1.proxy)) b (sends_none (with_part b x (after_showing p.1 p.1.proxy))))) (sym is)
      (show_by p.1 (may_show p.1.proxy) (sym (ap (table.get b.parts) is) ∙ k.0) k.1 refl)
  show_at p at (inr n) = other_part (not (may_show p.1.proxy)) p.0 (after_showing p.1 p.1.proxy) n

  proxy_moves : (o : Option (ℕ × PartView)) → ready_proxy b ≡ o → Goal (proxy_task b o)
  proxy_moves None at = move.rests refl refl refl
  proxy_moves (Some p) at = show_at p at (cases_eq p.0 e)

  part_moves : (o : Option (ℕ × PartView)) → ready_part b ≡ o → Goal (task_without_orders b o)
  part_moves (Some p) at = part_at p at (cases_eq p.0 e)
  part_moves None at = proxy_moves (ready_proxy b) refl

  task_at : (os : List Order) → AllByRecursion TellsNone os → b.orders ≡ os → Goal (base_task b os)
  task_at (o ∷ os) none at = order_moves os o none.0 at
  task_at [] none at = part_moves (ready_part b) refl

  pub task_moves : AllByRecursion TellsNone b.orders → Goal (base_task b b.orders)
  task_moves none = task_at b.orders none refl
