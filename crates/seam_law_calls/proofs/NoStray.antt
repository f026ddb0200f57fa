-- Nothing about the entity is stray at a base node.
use Rattle.seam_law_calls.proofs.Prelude.{◌≡◌, ℕ, ◌+◌, ◌<◌, ◌≤◌, Bool, true, false, not, ◌&&◌, is_none, List, ◌∷◌, length, Option, None}
use Rattle.seam_law_calls.proofs.Prelude.{Some, refl, sym, ap, ◌∙◌, subst, arith, inl, inr, slice_get, All, AllByRecursion, cases_eq}
use Rattle.seam_law_calls.proofs.Prelude.{eqb-true, All-nil, All-head, All-get_or, filter_passes, Call as CallData, Order, Msg, BaseCall}
use Rattle.seam_law_calls.proofs.Prelude.{Current, Update, limit, cell_count, peers_of, BaseView, PartView, RouteView, may_show}
use Rattle.seam_law_calls.proofs.Prelude.{stray_base_call, stray_current, stray_update, stray_proxy_update, is_base_node_of, NodeView}
use Rattle.seam_law_calls.proofs.Prelude.{World, node_peers, Cell, Base, letters_of, slot_at, Frame, here_at, IsInFrame, Has, has_of}
use Rattle.seam_law_calls.proofs.Prelude.{has_none, order_concerns, entity_flow, strays_at, is_stuck, base_call_of, calls_ordered}
use Rattle.seam_law_calls.proofs.Prelude.{HasNoProxy, home_of, FindsPart, HasBaseCalls, IsBaseNumber, is_for_cells, IsForNode, HasRoutes}
use Rattle.seam_law_calls.proofs.Prelude.{LinesHaveRoom, no_client, client, NothingIsStray, may_execute}
use Rattle.std.proofs.lemmas.Option.{slice_get_within, get_or_from_slice_get}
use Rattle.seam_call.specs.declared.order.Order.TheVariants as order
use Rattle.seam_call.specs.declared.shown.Update.{Update as UpdateData}
use Rattle.seam_law_calls.proofs.ExampleMet.{slots}
use Rattle.seam_law_calls.proofs.Holds.{all_two, below_is}
use Rattle.seam_law_calls.proofs.BaseRuns.{finds, finds_ordered, version_may_rise}
use Rattle.seam_law_calls.proofs.AloneRuns.{no_lines}
use Rattle.seam_law_calls.proofs.ClientRuns.{part_may_show, finds_client}

-- the part here may be offered the call
call_is_due : (f : Frame) (e k : ℕ) (s : Has) (c : CallData) → FindsPart f e k s.base c →
    stray_base_call (here_at f k) c s.base.part ≡ false
call_is_due f e k s c finds = ap (stray_base_call (here_at f k) c) finds.here ∙ ap not finds.may

-- a part without a client misses its updates, and nothing is stray
no_client_by : (u : UpdateData) (o : Option PartView) → HasNoProxy o → stray_update u o ≡ false
no_client_by u None alone = refl
no_client_by u (Some p) alone = ap (λ x. stray_proxy_update u x) (alone p refl)

current_fits : (j g : ℕ) (o : Option RouteView) (r : RouteView) → o ≡ Some r → j < cell_count → g < limit →
    stray_current (record { cell = j; generation = g }) o ≡ false
current_fits j g o r is low small =
    ap (stray_current (record { cell = j; generation = g })) is
    ∙ ap not (all_two _ _ (below_is j cell_count low) (below_is g limit small))

-- ---- a node with orders is a base node

base_below : (f : Frame) (w : World) (k : ℕ) (b : BaseView) → IsInFrame f w → slice_get w.nodes k ≡ Some (Base b) →
    k < cell_count + f.settings.bases
base_below f w k b q is =
    let lt = slice_get_within w.nodes k (Base b) is in
    let at = get_or_from_slice_get w.nodes k (Base b) (Base b) is in
    let many = ap node_peers (sym at) ∙ All-get_or (λ s. node_peers s ≡ length w.nodes) w.nodes k (Base b) lt q.sound.peers in
    let same = ap peers_of (q.nodes k (Base b) is).here in
    omega (arith, lt, many, same)

pub ordered_by : (f : Frame) (e : ℕ) (w : World) (k : ℕ) (q : IsInFrame f w) (n : Option NodeView) → slice_get w.nodes k ≡ n →
    (o : Order) (os : List Order) → (slot_at (has_of e) has_none n).base.orders ≡ o ∷ os → IsBaseNumber f k
ordered_by f e w k q None is o os at = absurd (let z = at in cc)
ordered_by f e w k q (Some (Cell c)) is o os at = absurd (let z = at in cc)
ordered_by f e w k q (Some (Base b)) is o os at = record { from = (q.nodes k (Base b) is).high; below = base_below f w k b q is }

-- what a node has of an entity's orders is about it
abbrev AreOwn : ℕ → Has → Type 0
AreOwn e s = All (λ o. order_concerns e o ≡ true) s.base.orders

own_orders : (e : ℕ) (n : NodeView) → AreOwn e (has_of e n)
own_orders e (Cell c) = All-nil (λ o. order_concerns e o ≡ true)
own_orders e (Base b) = filter_passes (order_concerns e) b.orders

order_own : (e : ℕ) (w : World) (k : ℕ) (o : Order) (os : List Order) → ((entity_flow e w).slot k).base.orders ≡ o ∷ os →
    order_concerns e o ≡ true
order_own e w k o os at =
    All-head (λ x. order_concerns e x ≡ true) o os
    (subst (All (λ x. order_concerns e x ≡ true)) at
    (slots (λ j s. AreOwn e s) e w (λ j n is. own_orders e n) (λ j. All-nil (λ o. order_concerns e o ≡ true)) k))

module _ (f : Frame) (e ty : ℕ) (first : ℕ → ℕ) (batch : ℕ → List CallData) (update n : ℕ) (w : World)
    (h : HasBaseCalls f e ty first batch w) (room : LinesHaveRoom f e ty update n w) where
  lines_by : LinesHaveRoom f e ty update n w → may_show h.part.part.proxy ≡ true
  lines_by (no_client alone) = no_lines f e ty first batch w h alone
  lines_by (client c most few) = part_may_show f e ty update n w c most few h.part.part h.part.here

  lines : may_show h.part.part.proxy ≡ true
  lines = lines_by room

  pub call_finds : (a k : ℕ) (c : CallData) (ms : List Msg) → (entity_flow e w).mail a k ≡ BaseCall c ∷ ms →
      FindsPart f e k ((entity_flow e w).slot k).base c
  call_finds a k c ms at = finds f e ty first batch w h a k c ms at lines

module _ (f : Frame) (e ty : ℕ) (first : ℕ → ℕ) (batch : ℕ → List CallData) (update n : ℕ) (w : World)
    (h : HasBaseCalls f e ty first batch w) (routes : HasRoutes f e w) (room : LinesHaveRoom f e ty update n w) where
  may : may_show h.part.part.proxy ≡ true
  may = lines f e ty first batch update n w h room

  -- ---- letters

  right : (a k : ℕ) (m : Msg) (ms : List Msg) → (entity_flow e w).mail a k ≡ m ∷ ms → IsForNode f k m
  right a k m ms at = (subst (AllByRecursion (IsForNode f k)) at (routes.letters a k)).0

  misses_cell : (a k : ℕ) (m : Msg) (ms : List Msg) → cell_count ≤ k → (entity_flow e w).mail a k ≡ m ∷ ms → is_for_cells m ≡ true → ⊥
  misses_cell a k m ms high at is = let low = (right a k m ms at).cells is in omega (arith, low, high)

  update_by : LinesHaveRoom f e ty update n w → (a k : ℕ) (u : UpdateData) (ms : List Msg) → (entity_flow e w).mail a k ≡ Update u ∷ ms →
      stray_update u ((entity_flow e w).slot k).base.part ≡ false
  update_by (no_client alone) a k u ms at = no_client_by u ((entity_flow e w).slot k).base.part (alone k)
  update_by (client c most few) a k u ms at = (finds_client f e ty update n w c most few a k u ms at).may

  no_letter : (a k : ℕ) (m : Msg) (ms : List Msg) → cell_count ≤ k → (entity_flow e w).mail a k ≡ m ∷ ms →
      strays_at (here_at f k) ((entity_flow e w).slot k).base m ≡ false
  no_letter a k (BaseCall c) ms high at =
      call_is_due f e k ((entity_flow e w).slot k) c (call_finds f e ty first batch update n w h room a k c ms at)
  no_letter a k (Current x j g) ms high at =
      let fit = right a k (Current x j g) ms at in
      let route = routes.routes k (fit.bases refl) in
      let both = fit.routes x j g refl in
      current_fits j g ((entity_flow e w).slot k).base.route route.0 route.1 both.0 both.1
  no_letter a k (Update u) ms high at = update_by room a k u ms at
  no_letter a k m ms high at = absurd (misses_cell a k m ms high at refl)

  -- ---- orders

  routed : (k : ℕ) (o : Order) (os : List Order) → ((entity_flow e w).slot k).base.orders ≡ o ∷ os →
      is_none ((entity_flow e w).slot k).base.route ≡ false
  routed k o os at =
      let r = routes.routes k (ordered_by f e w k h.part.frame (slice_get w.nodes k) refl o os at) in
      ap is_none r.1

  base_order_by : (k : ℕ) (c : CallData) (os : List Order) (b : Bool) → ((entity_flow e w).slot k).base.orders ≡ order.Base c ∷ os →
      c.entity ≡ e → is_base_node_of (here_at f k) c.entity ≡ b →
      (b && stray_base_call (here_at f k) c ((entity_flow e w).slot k).base.part) ≡ false
  base_order_by k c os false at own is = refl
  base_order_by k c os true at own is =
      let home : home_of f e ≡ k = eqb-true (home_of f e) k (ap (λ x. is_base_node_of (here_at f k) x) (sym own) ∙ is) in
      subst (λ x. stray_base_call (here_at f x) c ((entity_flow e w).slot x).base.part ≡ false) home
      (call_is_due f e (home_of f e) ((entity_flow e w).slot (home_of f e)) c
      (finds_ordered f e ty first batch w h c (letters_of base_call_of os)
      (ap (λ x. calls_ordered ((entity_flow e w).slot x).base) home ∙ ap (letters_of base_call_of) at) may))

  no_order : (k : ℕ) (o : Order) (os : List Order) → ((entity_flow e w).slot k).base.orders ≡ o ∷ os →
      is_stuck (here_at f k) ((entity_flow e w).slot k).base o ≡ false
  no_order k (order.Cell c) os at = routed k (order.Cell c) os at
  no_order k (order.Base c) os at =
      base_order_by k c os (is_base_node_of (here_at f k) c.entity) at (eqb-true c.entity e (order_own e w k (order.Base c) os at)) refl
  no_order k order.Tick os at = refl
  no_order k (order.Bounds x) os at = refl
  no_order k (order.Reap x) os at = routed k (order.Reap x) os at

  -- ---- parts

  no_part : (k : ℕ) (p : PartView) → ((entity_flow e w).slot k).base.part ≡ Some p → may_execute p ≡ true
  no_part k p has = elim (cases_eq k (home_of f e)) [
    | inl is ↦
        let same : h.part.part ≡ p =
        let z = sym h.part.here ∙ (ap (λ x. ((entity_flow e w).slot x).base.part) (sym is) ∙ has) in cc in
        subst (λ x. may_execute x ≡ true) same (all_two _ _ (version_may_rise f e ty first batch w h) may)
    | inr away ↦ absurd (let z = sym (h.part.others k away) ∙ has in cc)
  ]

  pub nothing_is_stray : NothingIsStray f e w
  nothing_is_stray = record { letters = no_letter; orders = no_order; parts = no_part }
