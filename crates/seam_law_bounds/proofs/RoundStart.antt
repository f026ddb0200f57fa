-- What a loaded world weighs, and how often its entities may yet settle.
use Rattle.seam_law_bounds.proofs.Prelude.{◌≡◌, ℕ, suc, ◌+◌, ◌*◌, ◌≤◌, ◌⊎◌, Bool, true, false, cond, eqb, List, [], ◌∷◌, ◌++◌, length, map}
use Rattle.seam_law_bounds.proofs.Prelude.{Option, None, Some, refl, sym, ap, ◌∙◌, subst, arith, inl, inr, option_map, slice_get}
use Rattle.seam_law_bounds.proofs.Prelude.{AllByRecursion, cases_eq, eq-eqb, ne_eqb, length-map, slice_get-map, link, EachNode, total}
use Rattle.seam_law_bounds.proofs.Prelude.{Order, Batch, RealView, real_begins, Here, with_value, each_value, CellView, BaseView, NodeView}
use Rattle.seam_law_bounds.proofs.Prelude.{World, node_has_work, Cell, Base, with_nodes, with_orders, order_if, ordered_at, cell_begins}
use Rattle.seam_law_bounds.proofs.Prelude.{cell_round, loaded, slot_at, Frame, order_concerns, orders_of, has_of, has_none, held_in}
use Rattle.seam_law_bounds.proofs.Prelude.{real_in, reaped_by_order, real_at, framed, each, made, node_loaded, MayBegin, Sizes}
use Rattle.seam_law_bounds.proofs.Prelude.{settle_weight, settling, look_weight, real_weight, part_weight, order_weight, node_weight}
use Rattle.seam_law_bounds.proofs.Prelude.{letter_weight, world_weight, HoldsNothing, reals_at, entities, one_if_cell, one_if_tick}
use Rattle.seam_law_bounds.proofs.Prelude.{cell_orders, base_orders, tick_orders, quiet_links, quiet_tasks, weight_or, with_order}
use Rattle.seam_law_bounds.proofs.Prelude.{loaded_is, node_there, nodes_after, settled_loaded, one_if, Surveys, loaded_surveys, no_held}
use Rattle.seam_law_bounds.proofs.Prelude.{rows_none, look_cell, reals_stay}
use Rattle.std.specs.FinMap as table
use Rattle.seam_call.specs.declared.order.Order.TheVariants as order
use Rattle.seam_law_rounds.proofs.Framing.{node_begun, known_at}
use Rattle.seam_law_calls.specs.Frames.{Knows}
use Rattle.seam_law_bounds.specs.Phases.{one_if_base}
use Rattle.seam_law_bounds.proofs.Counts.{none_times}
use Rattle.seam_law_bounds.proofs.Given.{AreAt, sum_exceeds, sum_adds, turned, nodes_stay, order_stays, orders_add}
use Rattle.seam_law_bounds.proofs.HandOvers.{real_left, node_left, mine_left, left}
use Rattle.seam_law_bounds.proofs.LoadedNodes.{IsBlank, entries_each, loaded_blank, idle_blank, cell_ordered}
use Rattle.seam_law_bounds.proofs.QuietWeights.{map_weighs_none}
use Rattle.seam_node_steps.specs.Prelude.{TellsNone}

-- ---- sums

total_none : {X : Type 0} (xs : List X) → total (λ x. 0) xs ≡ 0
total_none [] = refl
total_none (x ∷ xs) = let more = total_none xs in omega (arith, more)

total_times : {N : Type 0} (g h : N → ℕ) (c : ℕ) (ns : List N) → ((k : ℕ) (s : N) → slice_get ns k ≡ Some s → g s ≡ h s * c) →
    total g ns ≡ total h ns * c
total_times g h c [] each = let zero = none_times 0 c refl in omega (arith, zero)
total_times g h c (s ∷ ns) each =
    let here = each 0 s refl in
    let rest = total_times g h c ns (λ k x at. each (suc k) x at) in
    step (g s) (total g ns) (h s) (total h ns) here rest
  where
    step : (x y m n : ℕ) → x ≡ m * c → y ≡ n * c → x + y ≡ (m + n) * c
    step x y m n here rest = grind (arith, here, rest)

-- what a batch's orders weigh, where none is a reap or tells boundaries
module _ (z : Sizes) where
  abbrev call : ℕ
  call = 3 + settle_weight z

  abbrev tick : ℕ
  tick = order_weight z order.Tick

  orders_weigh : (os : List (ℕ × Order)) → AllByRecursion (λ o. reaped_by_order o.1 ≡ None) os →
      AllByRecursion (λ o. TellsNone o.1) os →
      total (λ o. order_weight z o.1) os ≡ total (λ o. one_if_cell o.1) os * (3 + settle_weight z) +
      (3 * total (λ o. one_if_base o.1) os + total (λ o. one_if_tick o.1) os * order_weight z order.Tick)
  orders_weigh [] h none =
      let a = none_times 0 (3 + settle_weight z) refl in
      let b = none_times 0 (order_weight z order.Tick) refl in
      omega (arith, a, b)
  orders_weigh (o ∷ os) h none =
      by o.1 h.0 none.0 (total (λ o. one_if_cell o.1) os) (total (λ o. one_if_base o.1) os) (total (λ o. one_if_tick o.1) os)
      (orders_weigh os h.1 none.1)
    where
      one : (c x : ℕ) → (1 + c) * x ≡ x + c * x
      one c x = grind arith

      zero : (c x : ℕ) → (0 + c) * x ≡ c * x
      zero c x = ap (λ n. n * x) (plain c)
        where
          plain : (c : ℕ) → 0 + c ≡ c
          plain c = omega arith

      by : (o : Order) → reaped_by_order o ≡ None → TellsNone o → (c d k : ℕ) → total (λ o. order_weight z o.1) os ≡ c * call +
          (3 * d + k * tick) →
          order_weight z o + total (λ o. order_weight z o.1) os
          ≡ (one_if_cell o + c) * call + (3 * (one_if_base o + d) + (one_if_tick o + k) * tick)
      by (order.Cell x) is none c d k rest =
          let a : (one_if_cell (order.Cell x) + c) * call ≡ call + c * call = one c call in
          let b : (one_if_tick (order.Cell x) + k) * tick ≡ k * tick = zero k tick in
          omega (arith, rest, a, b)
      by (order.Base x) is none c d k rest =
          let a : (one_if_cell (order.Base x) + c) * call ≡ c * call = zero c call in
          let b : (one_if_tick (order.Base x) + k) * tick ≡ k * tick = zero k tick in
          omega (arith, rest, a, b)
      by order.Tick is none c d k rest =
          let a : (one_if_cell order.Tick + c) * call ≡ c * call = zero c call in
          let b : (one_if_tick order.Tick + k) * tick ≡ tick + k * tick = one k tick in
          omega (arith, rest, a, b)
      by (order.Reap e) is none c d k rest = cc
      by (order.Bounds x) is none c d k rest = cc

-- orders bring no real
reals_ordered : (o : ℕ × Order) (ns : List NodeView) → total reals_at (map (ordered_at o) ns) ≡ total reals_at ns
reals_ordered o [] = refl
reals_ordered o (s ∷ ns) = let one = same s in let more = reals_ordered o ns in omega (arith, one, more)
  where
    same : (s : NodeView) → reals_at (ordered_at o s) ≡ reals_at s
    same (Cell c) = refl
    same (Base b) = refl

entities_stay : (os : List (ℕ × Order)) (w : World) → entities (with_orders w os) ≡ entities w
entities_stay [] w = refl
entities_stay (o ∷ os) w = entities_stay os (with_order w o) ∙ reals_ordered o w.nodes

module _ (f : Frame) (w : World) (b : Batch) (begin : MayBegin f w b) (none : HoldsNothing w) where
  abbrev pub g : Frame
  g = framed f b

  -- the batch without its orders
  abbrev unordered : Batch
  unordered = record b { orders = [] }

  abbrev begun : World
  begun = loaded w unordered

  abbrev turn : NodeView → NodeView
  turn = node_loaded unordered

  begun_is : begun ≡ with_nodes w turn
  begun_is = loaded_is w unordered

  ordered_is : loaded w b ≡ with_nodes begun (each ordered_at b.orders)
  ordered_is = nodes_after ordered_at begun b.orders

  -- a node of the world before the orders
  begun_from : (k : ℕ) (t : NodeView) → slice_get begun.nodes k ≡ Some t → (s : NodeView) × (slice_get w.nodes k ≡ Some s) × (turn s ≡ t)
  begun_from k t at =
      node_there (slice_get w.nodes k) turn t (sym (slice_get-map turn w.nodes k) ∙ (sym (ap (λ v. slice_get v.nodes k) begun_is) ∙ at))

  pub blank_at : (k : ℕ) (s : NodeView) → slice_get w.nodes k ≡ Some s → IsBlank s
  blank_at k s at =
      idle_blank s (quiet_tasks node_has_work w begin.between.quiet k s at)
      (λ n is. none k n (at ∙ ap Some is))

  pub begun_blank : (k : ℕ) (t : NodeView) → slice_get begun.nodes k ≡ Some t → IsBlank t
  begun_blank k t at =
      let was = begun_from k t at in
      subst IsBlank was.2 (loaded_blank unordered was.0 (blank_at k was.0 was.1))

  pub begun_at : AreAt g begun
  begun_at k t at =
      let was = begun_from k t at in
      subst (Knows g.defs g.settings k) was.2
      (known_at g k (turn was.0)
      (node_begun f b begin.fits.tree k was.0 (begin.between.nodes.sound.states k was.0 was.1) (begin.between.nodes.nodes k was.0 was.1)).1)

  -- a cell of it is a cell of the loaded world
  cell_there : (k : ℕ) (c : CellView) → slice_get begun.nodes k ≡ Some (Cell c) → slice_get (loaded w b).nodes k ≡ Some (Cell c)
  cell_there k c at =
      ap (λ v. slice_get v.nodes k) ordered_is
      ∙ (slice_get-map (each ordered_at b.orders) begun.nodes k
      ∙ (ap (option_map (each ordered_at b.orders)) at ∙ ap Some (cell_ordered c b.orders)))

  held_none : (k : ℕ) (c : CellView) → slice_get begun.nodes k ≡ Some (Cell c) → (e : ℕ) (r : RealView) → table.get c.reals e ≡ Some r →
      held_in r.orders ≡ 0
  held_none k c node e r at =
      let there = ap (λ o. real_in (slot_at (has_of e) has_none o)) (cell_there k c node) ∙ at in
      no_held r.orders (settled_loaded f w b begin e k r there).none_held

  module _ (z : Sizes) where
    -- before the orders each real is to settle, and nothing else weighs
    begun_weighs_by : (k : ℕ) (m t : NodeView) → cell_round b.tree m ≡ t → slice_get begun.nodes k ≡ Some t → IsBlank t →
        node_weight z t ≡ reals_at t * settling z
    begun_weighs_by k (Base n) t is at h =
        subst (λ x. node_weight z x ≡ reals_at x * settling z) is (base_none n (subst IsBlank (sym is) h))
      where
        base_none : (n : BaseView) → IsBlank (Base n) → node_weight z (Base n) ≡ 0 * settling z
        base_none n h =
            let a = ap (total (order_weight z)) h.0 in
            let d = map_weighs_none part_weight n.parts h.1 in
            let c = none_times 0 (settling z) refl in
            omega (arith, a, d, c)
    begun_weighs_by k (Cell c) t is at h =
        subst (λ x. node_weight z x ≡ reals_at x * settling z) is
        (cell_weighs (cell_begins b.tree c) (at ∙ ap Some (sym is)) (subst IsBlank (sym is) h) many)
      where
        many : length (table.keys c.reals) ≡ length (table.entries (each_value real_begins c.reals))
        many =
            length-map (table.entries c.reals) (λ p. p.0)
            ∙ (sym (length-map (table.entries c.reals) (with_value real_begins)) ∙ ap length (sym (entries_each real_begins c.reals)))

        cell_weighs : (c : CellView) → slice_get begun.nodes k ≡ Some (Cell c) → IsBlank (Cell c) →
            length c.survey ≡ length (table.entries c.reals) → node_weight z (Cell c) ≡ length (table.entries c.reals) * settling z
        cell_weighs c at h many =
            let a =
            map_weighs_none (real_weight z) c.reals
            (λ e r there. none_times (held_in r.orders) (settling z) (held_none k c at e r there)) in
            let s = ap (λ n. n * settling z) many in
            let l = none_times (length c.looks) (look_weight z) (ap length h) in
            omega (arith, a, s, l)

    begun_node_weighs : (k : ℕ) (t : NodeView) → slice_get begun.nodes k ≡ Some t → node_weight z t ≡ reals_at t * settling z
    begun_node_weighs k t at =
        let was = begun_from k t at in
        begun_weighs_by k (made b was.0) t was.2 at (begun_blank k t at)

    begun_weighs : world_weight z begun ≡ entities begun * settling z
    begun_weighs =
        let nodes = total_times (node_weight z) reals_at (settling z) begun.nodes begun_node_weighs in
        let links =
        rows_none (letter_weight z) begun.rows
        (λ x y. ap (λ v. link v.rows x y) begun_is
        ∙ quiet_links node_has_work w begin.between.nodes.sound.square begin.between.quiet x y) in
        omega (arith, nodes, links)

    -- what a loaded world weighs at most
    pub loaded_weighs : world_weight z (loaded w b) ≤ entities (loaded w b) * settling z
        + (cell_orders b * (3 + settle_weight z) + (3 * base_orders b + tick_orders b * order_weight z order.Tick))
    loaded_weighs =
        let more = orders_add z g b.orders begun begun_at in
        let start = begun_weighs in
        let orders = orders_weigh z b.orders begin.fits.spares begin.fits.unmoved in
        let same = ap (λ n. n * settling z) (entities_stay b.orders begun) in
        omega (arith, more, start, orders, same)

  -- ---- how often an entity may yet settle

  module _ (e home : ℕ) (r : RealView) (here : real_at e (loaded w b) home ≡ Some r) where
    real_begun : (k : ℕ) → real_at e (loaded w b) k ≡ real_at e begun k
    real_begun k =
        ap (λ v. real_at e v k) ordered_is
        ∙ reals_stay e (each ordered_at b.orders) (λ s. cells_stay b.orders s) begun k
      where
        cells_stay : (os : List (ℕ × Order)) (s : NodeView) → (has_of e (each ordered_at os s)).cell ≡ (has_of e s).cell
        cells_stay [] s = refl
        cells_stay (o ∷ os) s = cells_stay os (ordered_at o s) ∙ look_cell e o s

    held_by : (o : Option RealView) → (o ≡ None) ⊎ (o ≡ Some r) → weight_or real_left o ≡ 0
    held_by None h = refl
    held_by (Some q) (inl h) = cc
    held_by (Some q) (inr h) =
        let same : q ≡ r = cc in
        ap real_left same ∙ no_held r.orders (settled_loaded f w b begin e home r here).none_held

    orders_none : (t : NodeView) → IsBlank t → (has_of e t).base.orders ≡ []
    orders_none (Cell c) h = refl
    orders_none (Base n) h = ap (orders_of e) h.0

    node_few : (k : ℕ) (t : NodeView) → slice_get begun.nodes k ≡ Some t → node_left e t ≤ 0 + cond {A = ℕ} (eqb k home) 1 0
    node_few k t at = elim (cases_eq k home) [
      | inl is ↦
          let real = there ∙ (ap (λ j. real_at e (loaded w b) j) is ∙ here) in
          let held = held_by (real_in (has_of e t)) (inr real) in
          let one = ap one_if real in
          rw (eq-eqb k home is) (omega (arith, held, one, once, orders))
      | inr n ↦
          let real = there ∙ (settled_loaded f w b begin e home r here).others k n in
          let held = held_by (real_in (has_of e t)) (inl real) in
          let zero = ap one_if real in
          rw (ne_eqb k home n) (omega (arith, held, zero, once, orders))
    ]
      where
        there : real_in (has_of e t) ≡ real_at e (loaded w b) k
        there = sym (real_begun k ∙ ap (λ o. real_in (slot_at (has_of e) has_none o)) at)

        once : Surveys e t
        once = let was = begun_from k t at in subst (Surveys e) was.2 (loaded_surveys e unordered was.0)

        orders : total one_if_cell (has_of e t).base.orders ≡ 0
        orders = ap (total one_if_cell) (orders_none t (begun_blank k t at))

    begun_few : left e begun ≤ 1
    begun_few =
        let nodes = sum_exceeds (node_left e) (λ s. 0) home 1 begun.nodes node_few in
        let zero = total_none begun.nodes in
        let links =
        rows_none (mine_left e) begun.rows
        (λ x y. ap (λ v. link v.rows x y) begun_is
        ∙ quiet_links node_has_work w begin.between.nodes.sound.square begin.between.quiet x y) in
        omega (arith, nodes, zero, links)

    -- ---- with the orders

    filter_adds : (xs : List Order) (o : Order) →
        total one_if_cell (orders_of e (xs ++ o ∷ [])) ≤ total one_if_cell (orders_of e xs) + one_if_cell o
    filter_adds [] o = by (order_concerns e o)
      where
        by : (d : Bool) → total one_if_cell (cond d (o ∷ []) []) ≤ 0 + one_if_cell o
        by true = omega arith
        by false = omega arith
    filter_adds (x ∷ xs) o = by (order_concerns e x) (filter_adds xs o)
      where
        by : (d : Bool) → total one_if_cell (orders_of e (xs ++ o ∷ [])) ≤ total one_if_cell (orders_of e xs) + one_if_cell o →
            total one_if_cell (cond d (x ∷ orders_of e (xs ++ o ∷ [])) (orders_of e (xs ++ o ∷ []))) ≤ total one_if_cell
            (cond d (x ∷ orders_of e xs) (orders_of e xs)) + one_if_cell o
        by true h = omega (arith, h)
        by false h = h

    base_adds : (d : Bool) (n : BaseView) (o : Order) →
        node_left e (Base (order_if d n o)) ≤ node_left e (Base n) + cond {A = ℕ} d (one_if_cell o) 0
    base_adds true n o = let more = filter_adds n.orders o in omega (arith, more)
    base_adds false n o = omega arith

    order_adds : (k : ℕ) (o : ℕ × Order) (s : NodeView) → Knows g.defs g.settings k s →
        node_left e (ordered_at o s) ≤ node_left e s + cond {A = ℕ} (eqb k o.0) (one_if_cell o.1) 0
    order_adds k o (Cell c) at = omega arith
    order_adds k o (Base n) at =
        let one = base_adds (eqb o.0 n.here.me) n o.1 in
        let same =
        ap (λ d. cond {A = ℕ} d (one_if_cell o.1) 0) (ap (λ (h : Here). eqb o.0 h.me) at.1 ∙ turned o.0 k) in
        omega (arith, one, same)

    orders_few : (os : List (ℕ × Order)) (v : World) → EachNode (Knows g.defs g.settings) v.nodes →
        left e (with_orders v os) ≤ left e v + total (λ o. one_if_cell o.1) os
    orders_few [] v at = omega arith
    orders_few (o ∷ os) v at =
        let one = sum_adds (node_left e) (ordered_at o) o.0 (one_if_cell o.1) v.nodes (λ j s is. order_adds j o s (at j s is)) in
        let more = orders_few os (with_order v o) (nodes_stay g (ordered_at o) (λ k s h. order_stays g k o s h) v at) in
        omega (arith, one, more)

    pub left_few : left e (loaded w b) ≤ 1 + cell_orders b
    left_few =
        let more = orders_few b.orders begun begun_at in
        let few = begun_few in
        omega (arith, more, few)
