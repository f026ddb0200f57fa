-- Each call to a cell part once: after an event, and after every list of events.
use Rattle.seam_law_calls.proofs.Prelude.{◌≡◌, ℕ, ◌+◌, ◌<◌, ◌≤◌, true, not, is_some, List, ◌∷◌, length, Option, None, Some, refl, ap, ◌∙◌}
use Rattle.seam_law_calls.proofs.Prelude.{arith, slice_get, found, happens, Occurs, Task, Event, item_at, next_item, Call as CallData}
use Rattle.seam_law_calls.proofs.Prelude.{rank_of, order_or, order_of, RealView, Msg, Reap, limit, cell_count, order_is_ready, may_offer}
use Rattle.seam_law_calls.proofs.Prelude.{fits_cell_part, may_call, NodeView, World, node_steps, Cell, Base, Flow, comes, letter_in}
use Rattle.seam_law_calls.proofs.Prelude.{letters_of, more_letter, slot_at, carried_in, Item, desk_of, parcel_of, AreInTurn, Passes, Twice}
use Rattle.seam_law_calls.proofs.Prelude.{Frame, here_at, IsInFrame, Has, mine, has_of, has_none, entity_flow, real_burden, node_burden}
use Rattle.seam_law_calls.proofs.Prelude.{mine_burden, burden, real_in, IsSpared, IsFrame, HasOne, is_visited, AllLead, desk_for, real_desk}
use Rattle.seam_law_calls.proofs.Prelude.{cell_post, cell_mail, as_sender, IsCallOf, AreCallsOf, CellCallsInTurn, FindsTurn, weight_or}
use Rattle.seam_law_calls.proofs.Prelude.{weight_bounds, narrow_goes, first_is, sole_here, turns_go, is_met, never_late, never_held}
use Rattle.seam_law_calls.proofs.Prelude.{held_is_due, due_is}
use Rattle.std.specs.FinMap as table
use Rattle.seam_node_steps.specs.Prelude.{may_execute}
use Rattle.seam_entity.specs.declared.message.Msg.TheVariants.{Call}
use Rattle.seam_law_calls.proofs.Holds.{all_two, below_is}
use Rattle.seam_law_calls.proofs.Easing.{burden_happens}
use Rattle.seam_law_calls.proofs.OneReal.{goes, room, one_happens, calm_of, spared_happens}
use Rattle.seam_law_calls.proofs.WayMoves.{leads}
use Rattle.seam_law_calls.proofs.Leading.{lead_goes}
use Rattle.seam_law_calls.proofs.Finding.{first_finds}
use Rattle.seam_law_calls.proofs.DeskLemmas.{from_same}
use Rattle.seam_law_calls.proofs.CellSeen.{HoldsOwn, calls_seen}
use Rattle.seam_law_calls.proofs.Keeping.{RunsKeep, runs_keep}

-- a node where the real is or was is a cell
visited_by : (f : Frame) (e : ℕ) (w : World) (k : ℕ) → IsInFrame f w → (o : Option NodeView) → slice_get w.nodes k ≡ o →
    is_visited (slot_at (has_of e) has_none o) ≡ true → k < cell_count
visited_by f e w k q None at h = absurd (let z = h in cc)
visited_by f e w k q (Some (Cell c)) at h = (q.nodes k (Cell c) at).low
visited_by f e w k q (Some (Base b)) at h = absurd (let z = h in cc)

module _ (f : Frame) (frame : IsFrame f) (e ty : ℕ) (known : ty < length f.defs) (first : ℕ → ℕ) (batch : ℕ → List CallData)
    (ours : AreCallsOf f e ty batch) where
  -- what a run keeps
  pub record Kept (w : World) : Type 0 where
    pub has : HasOne f e ty w
    pub spared : IsSpared e w
    pub lead : AllLead (entity_flow e w)
    pub turns : CellCallsInTurn e first batch w
    pub room : burden e w + 1 < limit

  module _ (w : World) (h : Kept w) where
    abbrev flow : Flow Has Msg
    flow = entity_flow e w

    -- its numbers have room
    room_by : (k : ℕ) (r : RealView) (n : Option NodeView) → slice_get w.nodes k ≡ n →
        real_in (slot_at (has_of e) has_none n) ≡ Some r → real_burden r ≤ burden e w
    room_by k r None at has = absurd (let z = has in cc)
    room_by k r (Some n) at has =
        let v : Event = record { node = k; from = None } in
        let o : Occurs w v = record { node = n; input = Task; is_node = at; is_fed = refl } in
        let a = weight_bounds (node_burden e) (mine_burden e) w v o in
        let y = ap (weight_or real_burden) has in
        omega (arith, a, y)

    -- ---- what is there is the batch's

    module _ (k s : ℕ) (r : RealView) (has : real_in (flow.slot k) ≡ Some r) where
      abbrev turn : AreInTurn (first s) (batch s) (as_sender s flow)
      turn = h.turns s

      desk_there : desk_of ((as_sender s flow).slot k) ≡ Some (desk_for s r.orders r.done)
      desk_there = ap (real_desk s) has

      desk_is : desk_for s r.orders r.done ≡ turn.desk
      desk_is =
          (sole_here desk_of parcel_of (as_sender s flow) turn.place turn.desk (desk_for s r.orders r.done) k turn.in_turn.sole
          desk_there).1

    holds_own : (k : ℕ) → HoldsOwn (flow.slot k)
    holds_own k r p c has at item =
        let s = p.0 in
        let there : table.get r.orders s ≡ Some p.1 = (found order_is_ready r.orders p at).0 in
        let t = h.turns s in
        let due = held_is_due (first s) (batch s) (as_sender s flow) t.place t.desk t.in_turn k (order_or (table.get r.orders s)).next c
        (desk_for s r.orders r.done) (desk_there k s r has) (ap (λ y. next_item (order_or y)) there ∙ item) in
        (due_is (IsCallOf f e ty s) (first s) (batch s) (as_sender s flow) t.place t.desk t.in_turn (ours s) _ c due).sender

    -- ---- a call that comes

    module _ (a k : ℕ) (c : CallData) (rest : List Msg) (at : flow.mail a k ≡ Call c ∷ rest) where
      abbrev s : ℕ
      s = rank_of c.sender

      abbrev its : AreInTurn (first s) (batch s) (as_sender s flow)
      its = h.turns s

      seen : (as_sender s flow).mail a k ≡ Item c.number c ∷ letters_of (cell_mail s) rest
      seen =
          ap (letters_of (cell_mail s)) at
          ∙ ap (λ x. more_letter x (letters_of (cell_mail s) rest)) (from_same s c (Item c.number c) refl)

      fact : IsCallOf f e ty s c
      fact =
          due_is (IsCallOf f e ty s) (first s) (batch s) (as_sender s flow) its.place its.desk its.in_turn (ours s) c.number c
          (is_met (first s) (batch s) (as_sender s flow) its.place its.desk its.in_turn a k c.number c (letters_of (cell_mail s) rest)
          seen).0

      in_time : (its.desk.order.next ≤ c.number) × (c.number < first s + length (batch s))
      in_time =
          never_late (first s) (batch s) (as_sender s flow) its.place its.desk its.in_turn a k c.number c (letters_of (cell_mail s) rest)
          seen

      module _ (r : RealView) (has : real_in (flow.slot k) ≡ Some r) where
        due : (order_of r.orders c.sender).next ≤ c.number
        due =
            let same = ap (λ d. d.order.next) (desk_is k s r has) in
            let low = in_time.0 in
            omega (arith, same, low)

        fits : fits_cell_part (here_at f k) r.entity r.ty c ≡ true
        fits =
            let real = h.has.fits.reals k r has in
            ap (λ x. fits_cell_part (here_at f k) x r.ty c) real.entity
            ∙ (ap (λ y. fits_cell_part (here_at f k) e y c) real.type ∙ fact.fits)

        new : item_at c.number (order_of r.orders c.sender).held ≡ None
        new =
            never_held (first s) (batch s) (as_sender s flow) its.place its.desk its.in_turn a k c.number c
            (letters_of (cell_mail s) rest) seen (desk_for s r.orders r.done) (desk_there k s r has)

        may_be_offered : may_offer (order_of r.orders c.sender) c.number ≡ true
        may_be_offered =
            let low = in_time.0 in
            let high = in_time.1 in
            let one = its.in_turn.in_order.from_one in
            let few = its.in_turn.small in
            all_two _ _ (below_is 0 c.number (omega (arith, low, one)))
            (all_two _ _ (below_is (c.number + 1) limit (omega (arith, high, few))) (ap (λ x. not (is_some x)) new))

        may_be_executed : may_execute r ≡ true
        may_be_executed =
            let few = h.room in
            let part = room_by k r (slice_get w.nodes k) refl has in
            all_two _ _ (below_is (r.version + 1) limit (omega (arith, few, part)))
            (all_two _ _ (below_is (r.beat + 1) limit (omega (arith, few, part)))
            (below_is (r.generation + 1) limit (omega (arith, few, part))))

        may : may_call (here_at f k) r c ≡ true
        may = all_two _ _ fits (all_two _ _ may_be_offered may_be_executed)

      pub finds : FindsTurn f k (flow.slot k) c
      finds =
          let place = first_finds flow h.lead a k c rest at in
          record {
            cell = visited_by f e w k h.has.fits.frame (slice_get w.nodes k) refl place;
            place = place;
            may = may;
            due = due;
          }

  -- ---- an event

  module _ (w : World) (v : Event) (o : Occurs w v) (h : Kept w) where
    calm : letter_in (mine e) o.input ≡ Some (Reap e) → ⊥
    calm = calm_of f e w v o h.has.fits.frame h.spared

    abbrev next : World
    next = happens node_steps w v

    -- a call that comes finds its turn
    comes_due : (c : CallData) → comes (goes f frame e ty known w v o h.has calm).input ≡ Some (Call c) →
        FindsTurn f (goes f frame e ty known w v o h.has calm).k ((entity_flow e w).slot (goes f frame e ty known w v o h.has calm).k) c
    comes_due c is =
        let g = goes f frame e ty known w v o h.has calm in
        let i = first_is (λ x. None) Some (entity_flow e w) g.k g.input g.rest (Call c) g.head (ap (carried_in Some) is) in
        let same : i.1 ≡ Call c = let z = i.3 in cc in
        finds w h i.0 g.k c g.rest (i.4 ∙ ap (λ l. l ∷ g.rest) same)

    turns_happen : CellCallsInTurn e first batch next
    turns_happen s =
        let g = goes f frame e ty known w v o h.has calm in
        turns_go (first s) (batch s) (as_sender s (entity_flow e w)) (as_sender s (entity_flow e next))
        (narrow_goes (cell_post s) (cell_mail s) (Twice Passes) g
        (calls_seen f e g.k s ((entity_flow e w).slot g.k) (comes g.input) ((entity_flow e next).slot g.k) g.moves.0.sent g.out
        g.moves.0.items
        (room f frame e ty known w v o h.has calm)
        comes_due
        (holds_own w h g.k) g.moves.1.1 g.moves.0.moves)) (h.turns s)

    pub kept_happens : Kept next
    kept_happens =
        let g = goes f frame e ty known w v o h.has calm in
        record {
          has = (one_happens f frame e ty known w v o h.has calm).has;
          spared = spared_happens f e w v o h.has.fits.frame h.spared;
          lead =
              lead_goes g g.moves.0.sent g.moves.0.items
              (leads f e g.k ((entity_flow e w).slot g.k) (comes g.input) ((entity_flow e next).slot g.k) g.moves.0.sent
              (room f frame e ty known w v o h.has calm) g.moves.1.1 g.moves.0.moves) h.lead;
          turns = turns_happen;
          room =
              let less = burden_happens f e w v o h.has.fits.frame in
              let few = h.room in
              omega (arith, less, few);
        }

  pub kept_leads : RunsKeep Kept
  kept_leads = runs_keep Kept kept_happens
