-- Each call to a cell part that is on its way in a round was ordered.
use Rattle.seam_law_bounds.proofs.Prelude.{◌≡◌, ℕ, Bool, true, false, cond, List, [], ◌∷◌, Option, None, Some, refl, sym, ap, subst}
use Rattle.seam_law_bounds.proofs.Prelude.{slice_get, AllByRecursion, Division, link, happens, EachNode, Event, Call as CallData, Order}
use Rattle.seam_law_bounds.proofs.Prelude.{Msg, NodeView, World, node_steps, Cell, Base, comes, slot_at, letters_of, Frame, here_at}
use Rattle.seam_law_bounds.proofs.Prelude.{IsInFrame, Has, mine, order_concerns, orders_of, has_of, has_none, entity_flow, CellMoves}
use Rattle.seam_law_bounds.proofs.Prelude.{BaseMoves, Moves, at_a_cell, at_a_base, RunsTo, came, event_moves, frame_happens, base_keeps}
use Rattle.seam_law_bounds.proofs.Prelude.{EachKeeps, runs_keep, sent_kept}
use Rattle.seam_call.specs.declared.order.Order.TheVariants as order
use Rattle.seam_entity.specs.declared.message.Msg.TheVariants.{Call}
use Rattle.seam_law_calls.proofs.CellDeeds.{cell_deeds, cell_says}
use Rattle.seam_law_ghosts.proofs.Strays.{seen_first}
use Rattle.seam_law_bounds.proofs.Ordered.{OrdersAre, orders_happen}

-- P is true of each call to a cell part
module _ (P : CallData → Type 0) where
  abbrev pub OrderIs : Order → Type 0
  OrderIs (order.Cell c) = P c
  OrderIs _ = Unit {0}

  abbrev pub MessageIs : Msg → Type 0
  MessageIs (Call c) = P c
  MessageIs _ = Unit {0}

  module _ (f : Frame) (e k : ℕ) (s : Has) (i : Option Msg) (t : Has) (sent : List (ℕ × Msg))
      (stored : AllByRecursion OrderIs s.base.orders) (brought : (m : Msg) → i ≡ Some m → MessageIs m) where
    abbrev SentAre : Type 0
    SentAre = AllByRecursion (λ p. MessageIs p.1) sent

    cell_sends : {tree : Division} → CellMoves (here_at f k) tree e s.cell i t.cell sent → SentAre
    cell_sends m =
        cell_says (λ j x. MessageIs x) (record {
          sets = λ j x beat c low. tt;
          drops = λ j x beat low. tt;
          hands = λ u r q changed j has acts at. tt;
          calls = λ c n is at. brought (Call c) is;
          routes = λ r bs j is le lt. tt;
          updates = λ x u. tt;
        }) (cell_deeds m)

    base_sends : (cells : ℕ) → BaseMoves (here_at f k) cells e s.base i t.base sent → SentAre
    base_sends cells m = (base_keeps OrderIs (λ j x. MessageIs x) m
        (record { calls = λ c r at is. is; base_calls = λ c is. tt; ticks = λ is j lt. tt; reaps = λ r at is. tt }) stored).1

    sends_are : Moves f e k s i t sent → SentAre
    sends_are (at_a_cell tree of low m same) = cell_sends m
    sends_are (at_a_base high m same) = base_sends _ m

  -- ---- a world

  filtered_by : (o : Order) (os : List Order) (d : Bool) → OrderIs o → AllByRecursion OrderIs os →
      AllByRecursion OrderIs (cond d (o ∷ os) os)
  filtered_by o os true h all = (h, all)
  filtered_by o os false h all = all

  filtered : (e : ℕ) (os : List Order) → AllByRecursion OrderIs os → AllByRecursion OrderIs (orders_of e os)
  filtered e [] h = tt
  filtered e (o ∷ os) h = filtered_by o (orders_of e os) (order_concerns e o) h.0 (filtered e os h.1)

  node_orders : (e : ℕ) (s : NodeView) → OrdersAre OrderIs s → AllByRecursion OrderIs (has_of e s).base.orders
  node_orders e (Cell c) h = tt
  node_orders e (Base b) h = filtered e b.orders h

  module _ (f : Frame) (e : ℕ) where
    record AreBatched (w : World) : Type 0 where
      frame : IsInFrame f w
      orders : EachNode (λ k s. OrdersAre OrderIs s) w.nodes
      letters : (a k : ℕ) → AllByRecursion MessageIs ((entity_flow e w).mail a k)

    slot_orders : (w : World) → AreBatched w → (k : ℕ) (o : Option NodeView) → slice_get w.nodes k ≡ o →
        AllByRecursion OrderIs (slot_at (has_of e) has_none o).base.orders
    slot_orders w h k None at = tt
    slot_orders w h k (Some s) at = node_orders e s (h.orders k s at)

    batched_happens : EachKeeps AreBatched
    batched_happens w v o h =
        let g = event_moves f w v o h.frame e in
        record {
          frame = frame_happens f w v o h.frame;
          orders = orders_happen OrderIs w v o h.orders;
          letters =
              sent_kept (λ a k m. MessageIs m) g g.moves.sent g.moves.items h.letters
              (sends_are f e g.k ((entity_flow e w).slot g.k) (comes g.input) ((entity_flow e (happens node_steps w v)).slot g.k)
              g.moves.sent (slot_orders w h g.k (slice_get w.nodes g.k) refl)
              (λ m is. (came (λ a k x. MessageIs x) g m is h.letters).1) g.moves.moves);
        }

  -- over every list of events, P is true of each call that is the first of its link, where it is of each that is ordered and none is on
  -- its way
  pub calls_are : (f : Frame) (w v : World) (es : List Event) → IsInFrame f w → EachNode (λ k s. OrdersAre OrderIs s) w.nodes →
      ((a k : ℕ) → link w.rows a k ≡ []) → RunsTo w es v → (a k : ℕ) (c : CallData) (ms : List Msg) → link v.rows a k ≡ Call c ∷ ms → P c
  calls_are f w v es q orders empty run a k c ms at =
      let start : AreBatched f c.entity w = record {
        frame = q;
        orders = orders;
        letters = λ x y. subst (AllByRecursion MessageIs) (sym (ap (letters_of (mine c.entity)) (empty x y))) tt;
      } in
      let then = runs_keep (AreBatched f c.entity) (batched_happens f c.entity) w v es start run in
      (subst (AllByRecursion MessageIs) (seen_first c.entity v a k (Call c) ms at refl) (then.letters a k)).0
