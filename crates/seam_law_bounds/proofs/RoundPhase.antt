-- How long a round is, where its nodes can do what they are to do.
use Rattle.seam_law_bounds.proofs.Prelude.{◌≡◌, ℕ, ◌+◌, ◌*◌, ◌≤◌, ◌⊎◌, true, false, List, [], ◌∷◌, length, Some, refl, sym, ap, ◌∙◌, subst}
use Rattle.seam_law_bounds.proofs.Prelude.{arith, inl, inr, slice_get, AllByRecursion, slice_get-map, link, EachNode, Event}
use Rattle.seam_law_bounds.proofs.Prelude.{Call as CallData, Order, Batch, rank_of, RealView, has_ready, may_execute, Msg, holders}
use Rattle.seam_law_bounds.proofs.Prelude.{CellView, BaseView, PartView, stray_order, NodeView, World, node_has_work, Cell, Base, loaded}
use Rattle.seam_law_bounds.proofs.Prelude.{slot_at, Frame, IsInFrame, order_about, has_of, has_none, NoneIsStray, RunsTo, framed}
use Rattle.seam_law_bounds.proofs.Prelude.{node_loaded, MayBeLoaded, part_weight, Sizes, settle_weight, settling, order_weight, BaseCan}
use Rattle.seam_law_bounds.proofs.Prelude.{AllCan, all_passes, HoldsNothing, entities, one_if_cell, cell_orders, base_orders, tick_orders}
use Rattle.seam_law_bounds.proofs.Prelude.{quiet_links, weight_or, in_frame, settled_loaded, spared_loaded, loaded_is, node_there}
use Rattle.seam_law_bounds.proofs.Prelude.{Somewhere, Nowhere, search_real, frame_leads, round_tasks, all_weaker}
use Rattle.std.specs.FinMap as table
use Rattle.seam_call.specs.declared.order.Order.TheVariants as order
use Rattle.seam_entity.specs.declared.message.Msg.TheVariants.{Call}
use Rattle.seam_node_steps.specs.BaseCases as base
use Rattle.seam_law_rounds.proofs.Unknown.{nobody, unknown_loaded}
use Rattle.seam_law_bounds.proofs.HandedOver.{passed_few}
use Rattle.seam_law_calls.proofs.NodeStray.{none_is_stray}
use Rattle.seam_law_rounds.proofs.PartsGoing.{none_strays}
use Rattle.seam_law_bounds.proofs.Bare.{IsIdle, idle_leads}
use Rattle.seam_law_bounds.proofs.Batched.{OrderIs, calls_are}
use Rattle.seam_law_bounds.proofs.Cans.{base_can}
use Rattle.seam_law_bounds.proofs.HandOvers.{hands_few}
use Rattle.seam_law_bounds.proofs.LoadedNodes.{loaded_plain}
use Rattle.seam_law_bounds.proofs.NetWeights.{run_ends}
use Rattle.seam_law_bounds.proofs.Ordered.{OrdersAre, orders_lead}
use Rattle.seam_law_bounds.proofs.PassSums.{IsIn, passed_in, cells_bound, passes_are_ordered}
use Rattle.seam_law_bounds.proofs.RoundStart.{blank_at, loaded_weighs, left_few}
use Rattle.seam_law_bounds.proofs.Starts.{IsPlain, IsSoleReal, parts_none}
use Rattle.seam_law_calls.proofs.Holds.{not_false}

-- ---- each order is one of the batch's

pub both_all : {X : Type 0} (P Q : X → Type 0) (xs : List X) → AllByRecursion P xs → AllByRecursion Q xs →
    AllByRecursion (λ x. P x × Q x) xs
both_all P Q [] a b = tt
both_all P Q (x ∷ xs) a b = ((a.0, b.0), both_all P Q xs a.1 b.1)

order_in : (os : List (ℕ × Order)) (o : ℕ × Order) → OrderIs (IsIn (o ∷ os)) o.1
order_in os o = by o.1 (λ c is. inl is)
  where
    by : (x : Order) → ((c : CallData) → x ≡ order.Cell c → IsIn (o ∷ os) c) → OrderIs (IsIn (o ∷ os)) x
    by (order.Cell c) h = h c refl
    by _ h = tt

order_later : (os : List (ℕ × Order)) (o : ℕ × Order) (x : Order) → OrderIs (IsIn os) x → OrderIs (IsIn (o ∷ os)) x
order_later os o (order.Cell c) h = inr h
order_later os o _ h = tt

orders_in : (os : List (ℕ × Order)) → AllByRecursion (λ o. OrderIs (IsIn os) o.1) os
orders_in [] = tt
orders_in (o ∷ os) =
    let later =
    all_weaker (λ x. OrderIs (IsIn os) x.1) (λ x. OrderIs (IsIn (o ∷ os)) x.1) os (λ x h. order_later os o x.1 h) (orders_in os) in
    (order_in os o, later)

module _ (f : Frame) (w : World) (b : Batch) (may : MayBeLoaded f w b) (none : HoldsNothing w) where
  abbrev pub g : Frame
  g = framed f b

  abbrev pub start : World
  start = loaded w b

  -- what is true of each order
  abbrev IsKnown : Order → Type 0
  IsKnown o = (e : ℕ) → order_about o ≡ Some e → holders start e ≡ 1

  abbrev Ok : Order → Type 0
  Ok o = IsKnown o × OrderIs (IsIn b.orders) o

  orders_ok : AllByRecursion (λ o. Ok o.1) b.orders
  orders_ok = both_all (λ o. IsKnown o.1) (λ o. OrderIs (IsIn b.orders) o.1) b.orders may.begin.fits.known (orders_in b.orders)

  -- what nodes have where each order is such
  pub plain_with : (Q : Order → Type 0) → AllByRecursion (λ o. Q o.1) b.orders → EachNode (λ k s. IsPlain Q s) start.nodes
  plain_with Q all k t at =
      let was =
      node_there (slice_get w.nodes k) (node_loaded b) t
      (sym (slice_get-map (node_loaded b) w.nodes k) ∙ (sym (ap (λ v. slice_get v.nodes k) (loaded_is w b)) ∙ at)) in
      subst (IsPlain Q) was.2 (loaded_plain Q b all was.0 (blank_at f w b may.begin none k was.0 was.1))

  plain_start : EachNode (λ k s. IsPlain Ok s) start.nodes
  plain_start = plain_with Ok orders_ok

  orders_of_plain : (s : NodeView) → IsPlain Ok s → OrdersAre Ok s
  orders_of_plain (Cell c) h = tt
  orders_of_plain (Base n) h = h.0

  orders_start : EachNode (λ k s. OrdersAre Ok s) start.nodes
  orders_start k s at = orders_of_plain s (plain_start k s at)

  pub frame_start : IsInFrame g start
  frame_start = in_frame f w b may.begin

  pub empty_start : (x y : ℕ) → link start.rows x y ≡ []
  empty_start x y =
      ap (λ v. link v.rows x y) (loaded_is w b)
      ∙ quiet_links node_has_work w may.begin.between.nodes.sound.square may.begin.between.quiet x y

  pub sole_start : (e : ℕ) → IsSoleReal e start
  sole_start e k r at j other = (settled_loaded f w b may.begin e k r at).others j other

  module _ (v : World) (es : List Event) (run : RunsTo start es v) where
    pub frame_then : IsInFrame g v
    frame_then = frame_leads g start v es frame_start run

    nowhere_none : (e : ℕ) → Nowhere e start → holders start e ≡ 0
    nowhere_none e n = nobody f w b may.begin e n

    pub idle_then : (e : ℕ) → Nowhere e start → IsIdle g e v
    idle_then e no_one =
        idle_leads g e start v es
        (record {
          unknown = unknown_loaded f w b may.begin e (nowhere_none e no_one);
          parts = parts_none Ok start plain_start e;
        }) run

    module _ (k : ℕ) (n : BaseView) (node : slice_get v.nodes k ≡ Some (Base n)) where
      free : (e : ℕ) → Somewhere e start → NoneIsStray e v k n
      free e p =
          none_is_stray g e v frame_then (none_strays f w b may e p.0 p.1 p.2 v es run) k n node

      order_by : (o : Order) (os : List Order) (e : ℕ) → n.orders ≡ o ∷ os → order_about o ≡ Some e → holders start e ≡ 1 →
          Somewhere e start ⊎ Nowhere e start → stray_order n o ≡ false
      order_by o os e is about one (inl p) = (free e p).orders o os is about
      order_by o os e is about one (inr none) = let zero = nowhere_none e none in absurd (omega (arith, one, zero))

      first_by : (o : Order) (os : List Order) → n.orders ≡ o ∷ os → IsKnown o → stray_order n o ≡ false
      first_by (order.Cell c) os is known = order_by (order.Cell c) os c.entity is refl (known c.entity refl) (search_real c.entity start)
      first_by (order.Base c) os is known = order_by (order.Base c) os c.entity is refl (known c.entity refl) (search_real c.entity start)
      first_by (order.Reap e) os is known = order_by (order.Reap e) os e is refl (known e refl) (search_real e start)
      first_by _ os is known = refl

      first_free : (o : Order) (os : List Order) → n.orders ≡ o ∷ os → stray_order n o ≡ false
      first_free o os is =
          let all = subst (AllByRecursion Ok) is (orders_lead Ok start v es orders_start run k (Base n) node) in
          first_by o os is all.0.0

      part_by : (e : ℕ) (p : PartView) → table.get n.parts e ≡ Some p → Somewhere e start ⊎ Nowhere e start →
          (part_weight p ≡ 0) ⊎ (base.may_execute p ≡ true)
      part_by e p at (inl s) = inr ((free e s).parts p at)
      part_by e p at (inr none) =
          let zero = (idle_then e none).parts k in
          let same = ap (λ o. weight_or part_weight (slot_at (has_of e) has_none o).base.part) node in
          let its = ap (weight_or part_weight) at in
          inl (omega (arith, zero, same, its))

      pub base_then : BaseCan n
      base_then = base_can n first_free (λ e p at. part_by e p at (search_real e start))

    pub cell_then : (k : ℕ) (c : CellView) → slice_get v.nodes k ≡ Some (Cell c) → (e : ℕ) (r : RealView) → table.get c.reals e ≡ Some r →
        has_ready r.orders ≡ true → may_execute r ≡ true
    cell_then k c node e r at ready =
        not_false (may_execute r) ((round_tasks f w b may.begin v es run k c node).ready e r at ready)

    -- ---- calls that are passed on

    calls_then : (a k : ℕ) (c : CallData) (ms : List Msg) → link v.rows a k ≡ Call c ∷ ms → IsIn b.orders c
    calls_then a k c ms at =
        calls_are (IsIn b.orders) g start v es frame_start (λ k s at. ordered_by s (orders_start k s at)) empty_start run a k c ms at
      where
        ordered_by : (s : NodeView) → OrdersAre Ok s → OrdersAre (OrderIs (IsIn b.orders)) s
        ordered_by (Cell c) h = tt
        ordered_by (Base n) h = all_weaker Ok (OrderIs (IsIn b.orders)) n.orders (λ o h. h.1) h

  -- ---- how long a round is

  abbrev most : ℕ
  most = 1 + cell_orders b

  module _ (v : World) (es : List Event) (run : RunsTo start es v) where
    call_few : (c : CallData) → holders start c.entity ≡ 1 → Somewhere c.entity start ⊎ Nowhere c.entity start →
        passed_in start es (order.Cell c) ≤ 1 * most
    call_few c one (inr n) = let zero = nowhere_none v es run c.entity n in absurd (omega (arith, one, zero))
    call_few c one (inl p) =
        let a = passed_few f w b may.begin c.entity p.0 p.1 p.2 (rank_of c.sender) c.number v es run in
        let h =
        hands_few c.entity g start es frame_start (spared_loaded f w b may.begin c.entity p.0 p.1 p.2) run.each in
        let l = left_few f w b may.begin none c.entity p.0 p.1 p.2 in
        omega (arith, a, h, l)

    order_few : (o : Order) → IsKnown o → passed_in start es o ≤ one_if_cell o * most
    order_few (order.Cell c) known = call_few c (known c.entity refl) (search_real c.entity start)
    order_few _ known = omega arith

    passes_few : all_passes start es ≤ cell_orders b * most
    passes_few =
        let each =
        all_weaker (λ o. IsKnown o.1) (λ o. passed_in start es o.1 ≤ one_if_cell o.1 * most) b.orders (λ o h. order_few o.1 h)
        may.begin.fits.known in
        let few = cells_bound (passed_in start es) most b.orders each in
        let sum = passes_are_ordered b.orders start (λ u ds on a k c ms at. calls_then u ds on a k c ms at) es run.each in
        omega (arith, few, sum)

    -- the weight of the start, and the calls that are passed on
    pub round_long : (z : Sizes) → AllCan z start → length es ≤ entities start * settling z +
        (cell_orders b * (3 + settle_weight z) + (3 * base_orders b + tick_orders b * order_weight z order.Tick)) + cell_orders b * most
    round_long z can =
        let long = run_ends z g start frame_start can v es run in
        let passed = passes_few in
        let weighs = loaded_weighs f w b may.begin none z in
        omega (arith, long, passed, weighs)
