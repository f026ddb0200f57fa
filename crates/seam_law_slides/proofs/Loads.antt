-- A loaded world goes by the round's trees, all its reals are listed, and the last boundaries are to be told.
use Rattle.std.proofs.Common.{◌≡◌, ℕ, zero, suc, ◌+◌, ◌<◌, ◌≤◌, Bool, true, false, ◌&&◌, List, [], ◌∷◌, length, None, Some, refl, sym}
use Rattle.std.proofs.Common.{ap, ◌∙◌, subst, arith, inl, inr}
use Rattle.std.specs.Prelude.{◌==◌, option_map, slice_get}
use Rattle.std.proofs.lemmas.Option.{slice_get-map}
use Rattle.std.proofs.lemmas.Bool.{eq-eqb}
use Rattle.seam_machine.proofs.Quiet.{quiet_links, some_at}
use Rattle.seam_machine.proofs.Totals.{total-push}
use Rattle.seam_net_runs.proofs.Weighing.{weight_bounds}
use Rattle.seam_node_steps.specs.Prelude.{BaseView, Batch, Cell, Base, Division, Event, IsNode, NodeView, Occurs, Order, Task, World}
use Rattle.seam_node_steps.specs.Prelude.{cell_count, cell_round, link, loaded, node_has_work, node_peers, order_if, ordered_at}
use Rattle.seam_node_steps.specs.Prelude.{with_nodes, TellsNone}
use Rattle.seam_law_calls.specs.Prelude.{Frame, IsAt, entity_flow, has_none, has_of}
use Rattle.seam_law_calls.specs.Frames.{Knows}
use Rattle.seam_law_flow.specs.Prelude.{slot_at}
use Rattle.seam_law_rounds.specs.Loaded.{each, made, node_loaded}
use Rattle.seam_law_rounds.proofs.Loading.{each_keeps, Any, any, loaded_is}
use Rattle.seam_law_rounds.proofs.Framing.{Goes, Ordered, begun_known, goes_known, known_at, peers_at, peers_known, sound_turns}
use Rattle.seam_law_rounds.proofs.Framing.{each_turns}
use Rattle.seam_law_ghosts.proofs.Begun.{listed}
use Rattle.seam_law_slides.specs.Prelude.{AreAtRest, AreAwaited, AreHandsAtRest, BringOfRound, GoesByRound, IsNodeAtRest, IsNodeOf}
use Rattle.seam_law_slides.specs.Prelude.{MaySlide, TellsOfRound, TellsTheLast, at_node, framed_with, on_way, one_if, places_of_bounds}
use Rattle.seam_law_slides.specs.Prelude.{told_by_order}
use Rattle.seam_law_slides.proofs.Rounds.{each_of}
use Rattle.seam_call.specs.declared.order.Order.TheVariants as order

module _ (f : Frame) (w : World) (b : Batch) (later : List Division) (may : MaySlide f w b later) where
  abbrev g : Frame
  g = framed_with f b later

  abbrev T : Order → Type 0
  T = TellsOfRound g

  tells_none : (o : Order) → TellsNone o → T o
  tells_none o none x at = absurd (let z = sym none ∙ at in cc)

  ordered : (k : ℕ) (s : NodeView) → IsAt f k s → Ordered T s
  ordered k (Cell c) at = tt
  ordered k (Base n) at = each_of TellsNone T tells_none n.orders at.orders

  goes : (k : ℕ) (s : NodeView) → IsNode s → IsAt f k s → Goes T f b may.frame.tree k (node_loaded b s)
  goes k s is at = goes_known T f b may.frame.tree k s is (known_at f k s at) (ordered k s at) may.orders

  -- ---- it goes by the round's trees

  node_of : (k : ℕ) (s : NodeView) → Goes T f b may.frame.tree k s → IsNode s × IsNodeOf g k s
  node_of k (Cell c) h = (
    h.0,
    record {
      low = h.1.low;
      here = h.1.here;
      bounds =
          ap (slice_get (b.tree ∷ later)) h.1.number ∙ ap Some (sym (tree_by h.1.tree.number h.1.tree.is));
    },
  )
    where
      tree_by : (n : ℕ) → slice_get (b.tree ∷ []) n ≡ Some c.tree → c.tree ≡ b.tree
      tree_by zero is = cc
      tree_by (suc n) is = cc
  node_of k (Base n) h = (h.is, record { high = h.high; here = h.here; cells = h.cells; orders = h.orders })

  knows : (k : ℕ) (s : NodeView) → IsNodeOf g k s → Knows f.defs f.settings k s
  knows k (Cell c) is = (is.low, is.here)
  knows k (Base n) is = (is.high, is.here)

  turns : (k : ℕ) (s : NodeView) → IsNode s → IsAt f k s → IsNode (node_loaded b s) × IsNodeOf g k (node_loaded b s)
  turns k s is at = node_of k (node_loaded b s) (goes k s is at)

  peers : (k : ℕ) (s : NodeView) → IsNodeOf g k s → node_peers s ≡ cell_count + f.settings.bases
  peers k s is = peers_known f k s (knows k s is)

  abbrev empty : (x y : ℕ) → link w.rows x y ≡ []
  empty = quiet_links node_has_work w may.between.nodes.sound.square may.between.quiet

  round_turned : GoesByRound g (with_nodes w (node_loaded b))
  round_turned = record {
    sound =
        sound_turns (IsAt f) (IsNodeOf g) (cell_count + f.settings.bases) (peers_at f) peers (node_loaded b) turns w
        may.between.nodes.sound may.between.nodes.nodes;
    nodes =
        each_turns (IsAt f) (IsNodeOf g) (cell_count + f.settings.bases) (peers_at f) peers (node_loaded b) turns w
        may.between.nodes.sound may.between.nodes.nodes;
    letters = λ x y. subst (BringOfRound g x y) (sym (empty x y)) tt;
  }

  pub round_loaded : GoesByRound g (loaded w b)
  round_loaded = subst (GoesByRound g) (sym (loaded_is w b)) round_turned

  -- ---- all its reals are listed

  abbrev no_letters : (x y : ℕ) → link (loaded w b).rows x y ≡ []
  no_letters x y = ap (λ (v : World). link v.rows x y) (loaded_is w b) ∙ empty x y

  node_rests : (k : ℕ) (s : NodeView) → slice_get (loaded w b).nodes k ≡ Some s → IsNodeAtRest g k s
  node_rests k (Base n) at = tt
  node_rests k (Cell c) at = λ e r has none settles.
      let is : (entity_flow e (loaded w b)).slot k ≡ has_of e (Cell c) = ap (slot_at (has_of e) has_none) at in
      let some = listed e w b k r (ap (λ h. h.cell.slot.real) is ∙ has) in
      let same = ap (λ h. h.cell.survey) is in
      absurd (omega (arith, some, same, none))

  pub rest_loaded : AreAtRest g (loaded w b)
  rest_loaded = record { nodes = node_rests; letters = λ x y. subst (AreHandsAtRest g x y) (sym (no_letters x y)) tt }

  -- ---- the last boundaries are to be told

  module _ (k : ℕ) where
    abbrev n : ℕ
    n = length later

    abbrev F : NodeView → ℕ
    F = at_node k n

    -- a node weighs at most what the world does
    counts : (j : ℕ) (s : NodeView) → slice_get (loaded w b).nodes j ≡ Some s → 1 ≤ F s → 1 ≤ places_of_bounds k n (loaded w b)
    counts j s at some =
        let v : Event = record { node = j; from = None } in
        let o : Occurs (loaded w b) v = record { node = s; input = Task; is_node = at; is_fed = refl } in
        let most = weight_bounds F (on_way k n) (loaded w b) v o in
        omega (arith, most, some)

    -- more orders tell no less
    order_more : (d : Bool) (x : BaseView) (o : Order) → F (Base x) ≤ F (Base (order_if d x o))
    order_more true x o = let more = total-push (told_by_order n) x.orders o in omega (arith, more)
    order_more false x o = omega arith

    keeps_some : (o : ℕ × Order) (s : NodeView) → Any o → 1 ≤ F s → 1 ≤ F (ordered_at o s)
    keeps_some o (Cell c) u some = some
    keeps_some o (Base x) u some = let more = order_more (o.0 == x.here.me) x o.1 in omega (arith, more, some)

    order_there : (d : Bool) (x : BaseView) (o : Order) → d ≡ true → told_by_order n o ≤ F (Base (order_if d x o))
    order_there true x o is = let more = total-push (told_by_order n) x.orders o in omega (arith, more)
    order_there false x o is = cc

    abbrev IsBaseMe : ℕ → NodeView → Type 0
    IsBaseMe j (Cell c) = ⊥
    IsBaseMe j (Base x) = x.here.me ≡ j

    same_me : (d : Bool) (j : ℕ) (x : BaseView) (o : Order) → x.here.me ≡ j → (order_if d x o).here.me ≡ j
    same_me true j x o is = is
    same_me false j x o is = is

    keeps_me : (j : ℕ) (o : ℕ × Order) (s : NodeView) → IsBaseMe j s → IsBaseMe j (ordered_at o s)
    keeps_me j o (Cell c) is = is
    keeps_me j o (Base x) is = same_me (o.0 == x.here.me) j x o.1 is

    given_now : (j : ℕ) (o : Order) (s : NodeView) → IsBaseMe j s → 1 ≤ told_by_order n o → 1 ≤ F (ordered_at (j, o) s)
    given_now j o (Cell c) is some = absurd is
    given_now j o (Base x) is some =
        let more = order_there (j == x.here.me) x o (eq-eqb j x.here.me (sym is)) in omega (arith, more, some)

    given : (os : List (ℕ × Order)) (i j : ℕ) (o : Order) (s : NodeView) → slice_get os i ≡ Some (j, o) → IsBaseMe j s →
        1 ≤ told_by_order n o → 1 ≤ F (each ordered_at os s)
    given [] i j o s at is some = cc
    given (x ∷ os) zero j o s at is some =
        let same : (j, o) ≡ x = cc in
        each_keeps ordered_at (λ t. 1 ≤ F t) Any keeps_some os (any os) (ordered_at x s)
        (subst (λ y. 1 ≤ F (ordered_at y s)) same (given_now j o s is some))
    given (x ∷ os) (suc i) j o s at is some = given os i j o (ordered_at x s) at (keeps_me j x s is) some

    base_me : (j : ℕ) (s : NodeView) → cell_count ≤ j → Goes T f b may.frame.tree j s → IsBaseMe j s
    base_me j (Cell c) high h = let low = h.1.low in omega (arith, low, high)
    base_me j (Base x) high h = ap (λ i. i.me) h.here

    node_at : (j : ℕ) → j < cell_count + f.settings.bases → (s : NodeView) × (slice_get w.nodes j ≡ Some s)
    node_at j lt = let many = may.between.many in some_at w.nodes j (omega (arith, lt, many))

    loaded_at : (j : ℕ) (s : NodeView) → slice_get w.nodes j ≡ Some s → slice_get (loaded w b).nodes j ≡ Some (node_loaded b s)
    loaded_at j s at = ap (λ (v : World). slice_get v.nodes j) (loaded_is w b) ∙ (slice_get-map (node_loaded b) w.nodes j
        ∙ ap (option_map (node_loaded b)) at)

    -- there are none: each cell has those of the round's start
    at_start : later ≡ [] → k < cell_count → 1 ≤ places_of_bounds k n (loaded w b)
    at_start none low =
        let x = node_at k (omega (arith, low)) in
        let here = may.between.nodes.nodes k x.0 x.1 in
        counts k (node_loaded b x.0) (loaded_at k x.0 x.1)
        (first (node_loaded b x.0) (goes k x.0 (may.between.nodes.sound.states k x.0 x.1) here))
      where
        first : (s : NodeView) → Goes T f b may.frame.tree k s → 1 ≤ F s
        first (Base n) h = let high = h.high in absurd (omega (arith, high, low))
        first (Cell c) h =
            let me = eq-eqb c.here.me k (ap (λ i. i.me) h.1.here) in
            let number = eq-eqb c.number n (h.1.number ∙ sym (ap length none)) in
            let both_are = ap (λ a. one_if (a && (c.number == n))) me ∙ ap one_if number in
            omega (arith, both_are)

    to_tell : TellsTheLast f b later → 1 ≤ places_of_bounds k n (loaded w b)
    to_tell t =
        let x = node_at t.node t.in_net in
        let here = may.between.nodes.nodes t.node x.0 x.1 in
        let is = may.between.nodes.sound.states t.node x.0 x.1 in
        let told = ap one_if (eq-eqb t.bounds.number n t.last.number) in
        counts t.node (node_loaded b x.0) (loaded_at t.node x.0 x.1)
        (given b.orders t.place t.node (order.Bounds t.bounds) (cell_round b.tree (made b x.0)) t.order
        (base_me t.node _ t.is_base (begun_known T f b may.frame.tree t.node x.0 is (known_at f t.node x.0 here) (ordered t.node x.0 here)))
        (omega (arith, told)))

  pub awaited_loaded : AreAwaited g (loaded w b)
  awaited_loaded k low = elim may.told [
    | inl none ↦ at_start k none (let most = may.frame.tree.cells_to in omega (arith, low, most))
    | inr t ↦ to_tell k t
  ]
