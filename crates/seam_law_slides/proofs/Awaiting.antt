-- The last boundaries stay where they are, come nearer to a cell, or are there: so where nothing moves each cell of the tree has them.
use Rattle.std.proofs.Common.{◌≡◌, ℕ, zero, suc, ◌+◌, ◌<◌, ◌≤◌, ◌⊎◌, Bool, true, false, ◌&&◌, ◌||◌, List, [], ◌∷◌, length, Option, None}
use Rattle.std.proofs.Common.{◌-◌, Some, refl, sym, ap, ◌∙◌, arith, inl, inr, map}
use Rattle.std.specs.Prelude.{◌==◌, slice_get}
use Rattle.std.specs.List.{range_with_len}
use Rattle.std.proofs.lemmas.Bool.{cases_eq, eq-eqb, eqb-true, ne_eqb}
use Rattle.seam_machine.proofs.Occurring.{node_here}
use Rattle.seam_machine.proofs.Quiet.{quiet_links, quiet_tasks}
use Rattle.seam_net_runs.specs.Weights.{input_weight, sent_weight}
use Rattle.seam_net_runs.proofs.Soundness.{sound_sends}
use Rattle.seam_net_runs.proofs.Weighing.{weight_moves, weight_bounds}
use Rattle.seam_node_steps.specs.Prelude.{BaseView, Boundaries, Cell, Base, CellView, Event, From, Input, IsQuiet, Msg, NodeView, Occurs}
use Rattle.seam_node_steps.specs.Prelude.{Order, Task, World, boundaries_of, bounds_in, bounds_to, cell_count, cell_steps, cells_of}
use Rattle.seam_node_steps.specs.Prelude.{happens, has_any, node_has_work, node_steps, renewed, total}
use Rattle.seam_node_steps.specs.BaseCases as BaseCases
use Rattle.seam_node_steps.proofs.Peers.{cell_frame}
use Rattle.seam_law_calls.specs.Prelude.{Frame, IsFrame, RunsTo}
use Rattle.seam_law_calls.proofs.Classify.{node_laws}
use Rattle.seam_law_rounds.proofs.Room.{rows_none}
use Rattle.seam_law_rounds.proofs.Starting.{none_weighs}
use Rattle.seam_law_slides.specs.Prelude.{AreLast, BringsOfRound, DivideTheSpace, GoesByRound, IsBaseOf, IsCellOf, IsNodeOf, at_node}
use Rattle.seam_law_slides.specs.Prelude.{has_number, on_way, one_if, places_of_bounds, told_by_order}
use Rattle.seam_law_calls.proofs.Keeping.{RunsKeep, runs_keep}
use Rattle.seam_law_slides.proofs.Facts.{fed}
use Rattle.seam_law_slides.proofs.Rounds.{Fed, both, node_keeps, number_rises, round_happens}
use Rattle.seam_law_slides.proofs.Sends.{order_leaves, message_leaves}
use Rattle.seam_law_slides.proofs.Taking.{at_most_last, taken}
use Rattle.seam_call.specs.declared.order.Order.TheVariants as order

equal_of : (a b : ℕ) → (a == b) ≡ true → a ≡ b
equal_of a b is = eqb-true a b is

one_of_true : (b : Bool) → b ≡ true → one_if b ≡ 1
one_of_true b is = ap one_if is

one_of_false : (b : Bool) → b ≡ false → one_if b ≡ 0
one_of_false b is = ap one_if is

most_one : (b : Bool) → one_if b ≤ 1
most_one true = omega arith
most_one false = omega arith

-- where one test implies the other
one_up : (a b : Bool) → (a ≡ true → b ≡ true) → one_if a ≤ one_if b
one_up true b to = let is = ap one_if (to refl) in omega (arith, is)
one_up false b to = omega arith

and_true : (a b : Bool) → a ≡ true → b ≡ true → (a && b) ≡ true
and_true a b x y = ap (λ c. c && b) x ∙ y

and_false : (a b : Bool) → a ≡ false → (a && b) ≡ false
and_false a b x = ap (λ c. c && b) x

module _ (f : Frame) (frame : IsFrame f) (space : DivideTheSpace f) (k : ℕ) (in_tree : k < cells_of f.tree) where
  abbrev n : ℕ
  n = length f.later

  abbrev F : NodeView → ℕ
  F = at_node k n

  abbrev G : ℕ → Msg → ℕ
  G = on_way k n

  low : k < cell_count
  low = let most = frame.tree.cells_to in omega (arith, in_tree, most)

  -- what a step of node j does with them: there are as many, or the node has them then
  abbrev Holds : (j : ℕ) → NodeView → Input Msg → Type 0
  Holds j s i = (F s + input_weight G j i ≤ F (node_steps s i).state + sent_weight G (node_steps s i).sent)
      ⊎ (1 ≤ F (node_steps s i).state)

  -- ---- a cell

  module _ (j : ℕ) (c : CellView) (is : IsCellOf f j c) where
    me_is : c.here.me ≡ j
    me_is = ap (λ h. h.me) is.here

    module _ (i : Input Msg) (kept : IsCellOf f j (cell_steps c i).state) where
      abbrev d : CellView
      d = (cell_steps c i).state

      me_kept : d.here.me ≡ j
      me_kept = ap (λ h. h.me) kept.here

      has_last : n ≤ d.number → (d.number == n) ≡ true
      has_last from = let most : d.number ≤ n = at_most_last f frame space (boundaries_of d) kept.bounds in
          eq-eqb d.number n (omega (arith, from, most))

      up : F (Cell c) ≤ F (Cell d)
      up = one_up (c.here.me == k && c.number == n) (d.here.me == k && d.number == n) (λ h.
          let two = both (c.here.me == k) (c.number == n) h in
          let at = equal_of c.here.me k two.0 in
          let number = equal_of c.number n two.1 in
          let more = number_rises c i in
          and_true (d.here.me == k) (d.number == n) (eq-eqb d.here.me k (me_kept ∙ (sym me_is ∙ at)))
          (has_last (omega (arith, number, more))))

    task_holds : (kept : IsCellOf f j (cell_steps c Task).state) → Holds j (Cell c) Task
    task_holds kept = let more = up Task kept in inl (omega (arith, more))

    comes_by : (a : ℕ) (m : Msg) (kept : IsCellOf f j (cell_steps c (From a m)).state) → BringsOfRound f m → (x y : Bool) →
        (j == k) ≡ x → has_number n (bounds_in m) ≡ y → Holds j (Cell c) (From a m)
    comes_by a m kept brings true true at it =
        let same = equal_of j k at in
        inr (let e : ((cell_steps c (From a m)).state.here.me == k) ≡ true =
        eq-eqb (cell_steps c (From a m)).state.here.me k (me_kept (From a m) kept ∙ same) in
        let l = has_last (From a m) kept (came (bounds_in m) refl it) in
        let both_are = one_of_true _ (and_true _ _ e l) in
        omega (arith, both_are))
      where
        came : (o : Option Boundaries) → bounds_in m ≡ o → has_number n o ≡ true → n ≤ (cell_steps c (From a m)).state.number
        came None is_it h = cc
        came (Some b) is_it h =
            let same : (cell_steps c (From a m)).state.number ≡ (renewed c (bounds_in m)).number = (cell_frame c (From a m)).number in
            let got = ap (λ o. (renewed c o).number) is_it in
            let least = taken f frame space j c is.here b (brings b is_it) in
            let number = equal_of b.number n h in
            omega (arith, same, got, least, number)
    comes_by a m kept brings true false at it =
        let none = one_of_false _ (ap (λ y. (j == k) && y) it ∙ ap (λ x. x && false) at) in
        let more = up (From a m) kept in
        inl (omega (arith, none, more))
    comes_by a m kept brings false y at it =
        let none = one_of_false _ (and_false (j == k) (has_number n (bounds_in m)) at) in
        let more = up (From a m) kept in
        inl (omega (arith, none, more))

  -- ---- a base node

  range_tells : (x : Boundaries) (a len : ℕ) → a ≤ k → k < a + len →
      one_if (has_number n (Some x)) ≤ sent_weight G (map (bounds_to x) (range_with_len a len))
  range_tells x a zero from to = absurd (omega (arith, from, to))
  range_tells x a (suc len) from to = elim (cases_eq a k) [
    | inl at ↦
        let here = ap (λ b. one_if (b && has_number n (Some x))) (eq-eqb a k at) in
        omega (arith, here)
    | inr other ↦
        let later : a + 1 ≤ k = let lt = ne_lt a k from other in omega (arith, lt) in
        let rest = range_tells x (a + 1) len later (omega (arith, to)) in
        omega (arith, rest)
  ]
    where
      ne_lt : (a b : ℕ) → a ≤ b → (a ≡ b → ⊥) → a < b
      ne_lt a b le ne = elim (cases_eq (b - a) 0) [
        | inl is ↦ absurd (ne (omega (arith, is, le)))
        | inr more ↦ omega (arith, le, more)
      ]

  module _ (j : ℕ) (b : BaseView) (is : IsBaseOf f j b) where
    order_told : (os : List Order) (o : Order) →
        told_by_order n o ≤ sent_weight G (BaseCases.order_of_node (record b { orders = os }) o).sent
    order_told os (order.Bounds x) = range_tells x 0 b.cells (omega arith) (let same = is.cells in omega (arith, in_tree, same))
    order_told os (order.Cell c) = omega arith
    order_told os (order.Base c) = omega arith
    order_told os order.Tick = omega arith
    order_told os (order.Reap e) = omega arith

    task_by : (os : List Order) → b.orders ≡ os → total (told_by_order n) os
        ≤ total (told_by_order n) (BaseCases.base_task b os).state.orders + sent_weight G (BaseCases.base_task b os).sent
    task_by (o ∷ os) at = by (BaseCases.stray_order b o)
      where
        by : (d : Bool) → total (told_by_order n) (o ∷ os)
            ≤ total (told_by_order n) (BaseCases.unless_stray d b (BaseCases.order_of_node (record b { orders = os }) o)).state.orders
            + sent_weight G (BaseCases.unless_stray d b (BaseCases.order_of_node (record b { orders = os }) o)).sent
        by true = let same = ap (total (told_by_order n)) at in omega (arith, same)
        by false =
            let same = ap (total (told_by_order n)) (order_leaves b os o) in
            let told = order_told os o in
            omega (arith, same, told)
    task_by [] at = omega arith

    base_task_holds : Holds j (Base b) Task
    base_task_holds = let more = task_by b.orders refl in inl (omega (arith, more))

    base_hears : (a : ℕ) (m : Msg) → Holds j (Base b) (From a m)
    base_hears a m =
        let high = is.high in
        let other : (j ≡ k → ⊥) = λ same. omega (arith, high, low, same) in
        let none = one_of_false _ (and_false (j == k) (has_number n (bounds_in m)) (ne_eqb j k other)) in
        let same = ap (total (told_by_order n)) (message_leaves b m) in
        inl (omega (arith, none, same))

  -- ---- an event

  node_holds : (j : ℕ) (s : NodeView) (i : Input Msg) → IsNodeOf f j s → Fed f j i → Holds j s i
  node_holds j (Cell c) Task is came = task_holds j c is (node_keeps f j (Cell c) Task is came)
  node_holds j (Cell c) (From a m) is came =
      comes_by j c is a m (node_keeps f j (Cell c) (From a m) is came) came (j == k) (has_number n (bounds_in m)) refl refl
  node_holds j (Base b) Task is came = base_task_holds j b is
  node_holds j (Base b) (From a m) is came = base_hears j b is a m

  abbrev Count : World → ℕ
  Count w = places_of_bounds k n w

  record Awaits (w : World) : Type 0 where
    round : GoesByRound f w
    some : 1 ≤ Count w

  fed_round : (w : World) (v : Event) (o : Occurs w v) → GoesByRound f w → Fed f v.node o.input
  fed_round w v o round =
      fed (IsNodeOf f) (λ k. BringsOfRound f) w v o (record { sound = round.sound; nodes = round.nodes; letters = round.letters })

  some_happens : (w : World) (v : Event) (o : Occurs w v) → GoesByRound f w → 1 ≤ Count w → 1 ≤ Count (happens node_steps w v)
  some_happens w v o round some =
      let sent = sound_sends node_laws w v o round.sound in
      let moved = weight_moves F G node_steps w v o round.sound.square sent in
      elim (node_holds v.node o.node o.input (round.nodes v.node o.node o.is_node) (fed_round w v o round)) [
        | inl more ↦ omega (arith, moved, more, some)
        | inr here ↦
            let next : Event = record { node = v.node; from = None } in
            let there : Occurs (happens node_steps w v) next = record {
              node = (node_steps o.node o.input).state;
              input = Task;
              is_node = node_here node_steps w v o;
              is_fed = refl;
            } in
            let most = weight_bounds F G (happens node_steps w v) next there in
            omega (arith, here, most)
      ]

  awaits_leads : RunsKeep Awaits
  awaits_leads =
      runs_keep Awaits (λ x a o h. record { round = round_happens f x a o h.round; some = some_happens x a o h.round h.some })

  -- ---- where nothing moves

  no_orders : (b : BaseView) → node_has_work (Base b) ≡ false → b.orders ≡ []
  no_orders b idle = none (b.orders) (first (has_any b.orders) _ idle)
    where
      first : (x y : Bool) → (x || y) ≡ false → x ≡ false
      first true y h = cc
      first false y h = refl

      none : (os : List Order) → has_any os ≡ false → os ≡ []
      none [] h = refl
      none (o ∷ os) h = cc

  module _ (v : World) (is : Awaits v) (quiet : IsQuiet node_has_work v) (c : CellView) (at : slice_get v.nodes k ≡ Some (Cell c)) where
    of_cell : (j : ℕ) (x : CellView) → slice_get v.nodes j ≡ Some (Cell x) → (c.number == n) ≡ false → F (Cell x) ≡ 0
    of_cell j x there differs = elim (cases_eq j k) [
      | inl same ↦
          let one : c ≡ x = let z = sym at ∙ (sym (ap (slice_get v.nodes) same) ∙ there) in cc in
          one_of_false _ (ap (λ (y : CellView). (x.here.me == k) && (y.number == n)) (sym one)
          ∙ (ap (λ t. (x.here.me == k) && t) differs ∙ off (x.here.me == k)))
      | inr other ↦
          let me = ap (λ h. h.me) (is.round.nodes j (Cell x) there).here in
          one_of_false _ (and_false (x.here.me == k) (x.number == n) (ne_eqb x.here.me k (λ e. other (sym me ∙ e))))
    ]
      where
        off : (b : Bool) → (b && false) ≡ false
        off true = refl
        off false = refl

    of_node : (c.number == n) ≡ false → (j : ℕ) (s : NodeView) → slice_get v.nodes j ≡ Some s → F s ≡ 0
    of_node differs j (Cell x) there = of_cell j x there differs
    of_node differs j (Base b) there =
        ap (total (told_by_order n)) (no_orders b (quiet_tasks node_has_work v quiet j (Base b) there))

    last_by : (t : Bool) → (c.number == n) ≡ t → c.number ≡ n
    last_by true h = equal_of c.number n h
    last_by false h =
        let links = rows_none G v.rows (quiet_links node_has_work v is.round.sound.square quiet) in
        let nodes = none_weighs F v.nodes (of_node h) in
        let some = is.some in
        absurd (omega (arith, links, nodes, some))

    quiet_last : AreLast f (boundaries_of c)
    quiet_last = record { of = (is.round.nodes k (Cell c) at).bounds; number = last_by (c.number == n) refl }

  pub last_at_end : (w v : World) (es : List Event) → GoesByRound f w → 1 ≤ Count w → RunsTo w es v → IsQuiet node_has_work v →
      (c : CellView) → slice_get v.nodes k ≡ Some (Cell c) → AreLast f (boundaries_of c)
  last_at_end w v es round some run quiet c at =
      quiet_last v (awaits_leads w v es (record { round = round; some = some }) run) quiet c at
