-- The phase of reaps ends.
use Rattle.seam_law_bounds.proofs.Prelude.{◌≡◌, ℕ, ◌+◌, ◌*◌, ◌<◌, ◌≤◌, Bool, true, false, eqb, List, [], ◌∷◌, length, Option, None, Some}
use Rattle.seam_law_bounds.proofs.Prelude.{refl, sym, ap, ◌∙◌, subst, arith, inl, is_none, slice_get, AllByRecursion, length-map}
use Rattle.seam_law_bounds.proofs.Prelude.{slice_get-map, slice_get_within, link, Occurs, EachNode, Event, Call as CallData, Order}
use Rattle.seam_law_bounds.proofs.Prelude.{RealView, has_ready, may_execute, cell_count, base_of, Msg, holders, CellView, BaseView}
use Rattle.seam_law_bounds.proofs.Prelude.{PartView, RouteView, stray_order, NodeView, World, node_has_work, Cell, Base, order_if}
use Rattle.seam_law_bounds.proofs.Prelude.{with_nodes, reap_ordered_at, reaps_loaded, slot_at, Frame, IsInFrame, has_of, has_none}
use Rattle.seam_law_bounds.proofs.Prelude.{entity_flow, base_call_of, is_tick_order, RunsTo, IsBetweenRounds, each, AreReapable, Sizes}
use Rattle.seam_law_bounds.proofs.Prelude.{part_weight, BaseCan, NodeCan, is_pass, all_passes, HoldsNothing, quiet_tasks, weight_or}
use Rattle.seam_law_bounds.proofs.Prelude.{all_append, node_there, quiet_home, frame_leads, reaps_framed, reaps_cell, reals_stay}
use Rattle.seam_law_bounds.proofs.Prelude.{calm_leads, reaps_tasks, all_weaker}
use Rattle.std.specs.FinMap as table
use Rattle.seam_call.specs.declared.order.Order.TheVariants as order
use Rattle.seam_entity.specs.declared.message.Msg.TheVariants.{Call}
use Rattle.seam_law_rounds.proofs.Shape.{many_leads}
use Rattle.seam_law_rounds.proofs.Reaping as reaping
use Rattle.seam_law_rounds.proofs.Reaping.{is_told}
use Rattle.seam_law_bounds.proofs.Bare.{IsBare, bare_leads}
use Rattle.seam_law_bounds.proofs.Batched.{OrderIs, calls_are}
use Rattle.seam_law_bounds.proofs.Cans.{base_can, can_by}
use Rattle.seam_law_rounds.proofs.Framing.{known_at}
use Rattle.seam_law_bounds.proofs.Given.{reaps_add}
use Rattle.seam_law_bounds.proofs.NetWeights.{run_ends}
use Rattle.seam_law_bounds.proofs.NoPasses.{no_pass_by, passes_none}
use Rattle.seam_law_bounds.proofs.Ordered.{OrdersAre, orders_lead}
use Rattle.seam_law_bounds.proofs.QuietWeights.{idle_looks, idle_base, empty_links, quiet_weighs}
use Rattle.seam_law_bounds.proofs.Starts.{IsPlain, IsSoleReal, bare_start}
use Rattle.seam_node_steps.specs.Prelude.{noting}
use Rattle.seam_law_calls.proofs.Holds.{not_false}

-- nothing
no_sizes : Sizes
no_sizes = record { bases = 0; lines = 0; witnesses = λ k. 0 }

-- an order to reap an entity that was there
abbrev IsReap : World → Order → Type 0
IsReap u (order.Reap e) = holders u e ≡ 1
IsReap u _ = ⊥

no_tick : (u : World) (o : Order) → IsReap u o → is_tick_order o ≡ false
no_tick u order.Tick h = absurd h
no_tick u _ h = refl

no_call : (u : World) (o : Order) → IsReap u o → base_call_of o ≡ None
no_call u (order.Base c) h = absurd h
no_call u _ h = refl

-- ---- what nodes have once reaps are loaded

module _ (u : World) where
  plain_if : (d : Bool) (e : ℕ) (b : BaseView) → holders u e ≡ 1 → IsPlain (IsReap u) (Base b) →
      IsPlain (IsReap u) (Base (order_if d b (order.Reap e)))
  plain_if true e b one h = (all_append (IsReap u) b.orders (order.Reap e ∷ []) h.0 (one, tt), h.1)
  plain_if false e b one h = h

  plain_by : (e : ℕ) (s : NodeView) → holders u e ≡ 1 → IsPlain (IsReap u) s → IsPlain (IsReap u) (reap_ordered_at e s)
  plain_by e (Cell c) one h = h
  plain_by e (Base b) one h = plain_if (eqb (base_of b.here e) b.here.me) e (noting e b) one h

  plain_all : (es : List ℕ) (s : NodeView) → AllByRecursion (λ e. holders u e ≡ 1) es → IsPlain (IsReap u) s →
      IsPlain (IsReap u) (each reap_ordered_at es s)
  plain_all [] s there h = h
  plain_all (e ∷ es) s there h = plain_all es (reap_ordered_at e s) there.1 (plain_by e s there.0 h)

module _ (f : Frame) (u : World) (between : IsBetweenRounds f u) (none : HoldsNothing u) (es : List ℕ) (may : AreReapable u es) where
  abbrev turn : NodeView → NodeView
  turn = each reap_ordered_at es

  abbrev start : World
  start = reaps_loaded u es

  pub loaded_is : start ≡ with_nodes u turn
  loaded_is = reaping.loaded_is f u between es may

  plain_idle : (k : ℕ) (s : NodeView) → slice_get u.nodes k ≡ Some s → node_has_work s ≡ false → IsPlain (IsReap u) s
  plain_idle k (Cell c) node idle = idle_looks c idle
  plain_idle k (Base b) node idle = (subst (AllByRecursion (IsReap u)) (sym (idle_base b idle)) tt, none k b node)

  plain_nodes : EachNode (λ k s. IsPlain (IsReap u) s) (with_nodes u turn).nodes
  plain_nodes k t at =
      let was = node_there (slice_get u.nodes k) turn t (sym (slice_get-map turn u.nodes k) ∙ at) in
      subst (IsPlain (IsReap u)) was.2
      (plain_all u es was.0 may.there (plain_idle k was.0 was.1 (quiet_tasks node_has_work u between.quiet k was.0 was.1)))

  sole_real : (e : ℕ) → IsSoleReal e (with_nodes u turn)
  sole_real e k r at j other =
      let stay = reals_stay e turn (reaps_cell e es) u in
      stay j ∙ (between.settled e k r (sym (stay k) ∙ at)).others j other

  bare_loaded : (e : ℕ) → (n : ℕ) × IsBare f e n start
  bare_loaded e =
      subst (λ w. (n : ℕ) × IsBare f e n w) (sym loaded_is)
      (bare_start f e (with_nodes u turn) (reaps_framed f u between.nodes es) (empty_links no_sizes f u between none)
      (IsReap u) plain_nodes (no_tick u) (sole_real e) (λ o is own. no_call u o is))

  pub frame_loaded : IsInFrame f start
  frame_loaded = subst (IsInFrame f) (sym loaded_is) (reaps_framed f u between.nodes es)

  orders_of_plain : (s : NodeView) → IsPlain (IsReap u) s → OrdersAre (IsReap u) s
  orders_of_plain (Cell c) h = tt
  orders_of_plain (Base b) h = h.0

  orders_loaded : EachNode (λ k s. OrdersAre (IsReap u) s) start.nodes
  orders_loaded =
      subst (λ w. EachNode (λ k s. OrdersAre (IsReap u) s) w.nodes) (sym loaded_is)
      (λ k s at. orders_of_plain s (plain_nodes k s at))

  pub empty_start : (x y : ℕ) → link start.rows x y ≡ []
  empty_start x y = ap (λ w. link w.rows x y) loaded_is ∙ empty_links no_sizes f u between none x y

  -- ---- over every list of events

  module _ (vs : List Event) (v : World) (run : RunsTo start vs v) where
    frame_then : IsInFrame f v
    frame_then = frame_leads f start v vs frame_loaded run

    pub bare_then : (e : ℕ) → (n : ℕ) × IsBare f e n v
    bare_then e = let b = bare_loaded e in (b.0, bare_leads f e b.0 start v vs b.1 run)

    within : (k : ℕ) (s : NodeView) → slice_get v.nodes k ≡ Some s → k < cell_count + f.settings.bases
    within k s at =
        let lt = slice_get_within v.nodes k s at in
        let many = many_leads start v vs run in
        let same = ap (λ w. length w.nodes) loaded_is in
        let map_many = length-map u.nodes turn in
        let all = between.many in
        omega (arith, lt, many, same, map_many, all)

    module _ (k : ℕ) (b : BaseView) (node : slice_get v.nodes k ≡ Some (Base b)) where
      has_is : (e : ℕ) → (entity_flow e v).slot k ≡ has_of e (Base b)
      has_is e = ap (slot_at (has_of e) has_none) node

      some_route : (o : Option RouteView) (r : RouteView) → o ≡ Some r → is_none o ≡ false
      some_route None r h = cc
      some_route (Some x) r h = refl

      route_there : (e : ℕ) → holders u e ≡ 1 → is_none (table.get b.routes e) ≡ false
      route_there e one =
          let h = quiet_home f u between e one in
          let calm =
          calm_leads f between.frame u between e h.node h.real h.here (is_told e es)
          (reaping.small f u between es may e h.node h.real h.here) start v vs
          (reaping.calm f u between es may e h.node h.real h.here) run in
          let high = (frame_then.nodes k (Base b) node).high in
          let was = (between.settled e h.node h.real h.here).routes k high (within k (Base b) node) in
          let now = sym (ap (λ x. x.base.route) (has_is e)) ∙ ((calm.nodes k).route ∙ was) in
          some_route (table.get b.routes e) _ now

      order_by : (o : Order) → IsReap u o → stray_order b o ≡ false
      order_by (order.Reap e) h = route_there e h
      order_by _ h = absurd h

      first_by : (o : Order) (os : List Order) → b.orders ≡ o ∷ os → stray_order b o ≡ false
      first_by o os is =
          order_by o (subst (AllByRecursion (IsReap u)) is (orders_lead (IsReap u) start v vs orders_loaded run k (Base b) node)).0

      pub part_none : (e : ℕ) (p : PartView) → table.get b.parts e ≡ Some p → part_weight p ≡ 0
      part_none e p at =
          let zero = (bare_then e).1.parts k in
          let same = ap (λ x. weight_or part_weight x.base.part) (has_is e) in
          let its = ap (weight_or part_weight) at in
          omega (arith, zero, same, its)

      base_then : BaseCan b
      base_then = base_can b first_by (λ e p at. inl (part_none e p at))

    cell_then : (k : ℕ) (c : CellView) → slice_get v.nodes k ≡ Some (Cell c) → (e : ℕ) (r : RealView) → table.get c.reals e ≡ Some r →
        has_ready r.orders ≡ true → may_execute r ≡ true
    cell_then k c node e r at ready = not_false (may_execute r) ((reaps_tasks f u between es may vs v run k c node).ready e r at ready)

    pub can_then : (z : Sizes) → f.settings.bases ≤ z.bases → (x : Event) (o : Occurs v x) → NodeCan z o.node o.input
    can_then z enough x o =
        can_by z f v enough frame_then (λ e. (bare_then e).1.looks) cell_then base_then x.node x.from o.node o.input o.is_node o.is_fed

    -- the parts hold nothing still
    pub still_none : HoldsNothing v
    still_none k b node e p at = part_none k b node e p at

    -- ---- no call is passed on

    pub no_call_comes : (a k : ℕ) (c : CallData) (ms : List Msg) → link v.rows a k ≡ Call c ∷ ms → ⊥
    no_call_comes a k c ms at =
        calls_are (λ c. ⊥) f start v vs frame_loaded (λ k s is. reaps_call s (orders_loaded k s is)) empty_start run a k c ms at
      where
        reap_calls : (o : Order) → IsReap u o → OrderIs (λ c. ⊥) o
        reap_calls (order.Cell c) h = absurd h
        reap_calls _ h = tt

        reaps_call : (s : NodeView) → OrdersAre (IsReap u) s → OrdersAre (OrderIs (λ c. ⊥)) s
        reaps_call (Cell c) h = tt
        reaps_call (Base b) h = all_weaker (IsReap u) (OrderIs (λ c. ⊥)) b.orders reap_calls h

    pub no_pass : (x : Event) → is_pass v x ≡ false
    no_pass x = no_pass_by v x (λ a c ms at. no_call_comes a x.node c ms at)

  none_passed : (vs : List Event) (v : World) → RunsTo start vs v → all_passes start vs ≡ 0
  none_passed vs v run = passes_none start (λ x ds on. no_pass ds x on) vs run.each

  pub reaps_end : (vs : List Event) (v : World) → RunsTo start vs v → length vs ≤ 18 * length es
  reaps_end vs v run =
      let z : Sizes = record { bases = f.settings.bases; lines = 0; witnesses = λ k. 0 } in
      let few = run_ends z f start frame_loaded (λ x ds on. can_then ds x on z (omega arith)) v vs run in
      let passed = none_passed vs v run in
      let at_start = reaps_add z f es u (λ k s at. known_at f k s (between.nodes.nodes k s at)) in
      let quiet = quiet_weighs z f u between none in
      omega (arith, few, passed, at_start, quiet)
