-- Each call to a base part once: after an event.
use Rattle.seam_law_calls.proofs.Prelude.{◌≡◌, ℕ, ◌+◌, ◌<◌, ◌≤◌, true, not, is_some, List, ◌∷◌, length, Option, None, Some, refl, ap, ◌∙◌}
use Rattle.seam_law_calls.proofs.Prelude.{subst, arith, slice_get, AllByRecursion, length-append, found, happens, Occurs, Task, Event}
use Rattle.seam_law_calls.proofs.Prelude.{item_at, next_item, Call as CallData, Order, rank_of, order_or, order_of, Msg, BaseCall, limit}
use Rattle.seam_law_calls.proofs.Prelude.{may_rise, order_is_ready, may_offer, PartView, fits_base_part, may_show, NodeView, World}
use Rattle.seam_law_calls.proofs.Prelude.{node_steps, Flow, Goes, comes, letters_of, more_letter, slot_at, carried_in, number_from, Item}
use Rattle.seam_law_calls.proofs.Prelude.{desk_of, parcel_of, AreInTurn, Passes, Frame, here_at, Has, has_of, has_none, entity_flow}
use Rattle.seam_law_calls.proofs.Prelude.{MovesTo, reaped_by_order, IsSpared, numbered_from, calls_ordered, part_desk, base_post, base_mail}
use Rattle.seam_law_calls.proofs.Prelude.{as_base_sender, IsBaseCallOf, BaseCallsInTurn, part_burden, node_base_burden, mine_base_burden}
use Rattle.seam_law_calls.proofs.Prelude.{base_burden, home_of, IsHomeward, FindsPart, HasBaseCalls, weight_or, weight_bounds, narrow_goes}
use Rattle.seam_law_calls.proofs.Prelude.{first_is, sole_here, item_bounds, turn_goes, is_met, never_held, held_is_due, due_is}
use Rattle.seam_law_calls.proofs.Prelude.{stored_is_due, stored_is_free}
use Rattle.std.specs.FinMap as table
use Rattle.seam_call.specs.declared.order.Order.TheVariants as order
use Rattle.seam_law_calls.proofs.Classify.{event_moves, frame_happens}
use Rattle.seam_law_calls.proofs.Holds.{all_two, below_is}
use Rattle.seam_law_calls.proofs.OneReal.{spared_happens}
use Rattle.seam_law_calls.proofs.DeskLemmas.{from_same}
use Rattle.seam_law_calls.proofs.PartSteps.{part_moves}
use Rattle.seam_law_calls.proofs.PartEasing.{base_burden_happens}
use Rattle.seam_law_calls.proofs.PartSeen.{desk_of_part, HoldsOwnCalls, part_seen}
use Rattle.seam_law_calls.proofs.PartKept.{part_goes}

-- an entity that no one reaps has no order to
pub unordered : (e : ℕ) (w : World) (k : ℕ) (os : List Order) → IsSpared e w →
    ((entity_flow e w).slot k).base.orders ≡ order.Reap e ∷ os → ⊥
unordered e w k os spared at =
    let all : AllByRecursion (λ o. reaped_by_order o ≡ None) (order.Reap e ∷ os) =
    subst (AllByRecursion (λ o. reaped_by_order o ≡ None)) at (spared.orders k) in
    let no = all.0 in
    cc

-- the version of a part has room
room_by : (e : ℕ) (w : World) (k : ℕ) (p : PartView) (n : Option NodeView) → slice_get w.nodes k ≡ n →
    (slot_at (has_of e) has_none n).base.part ≡ Some p → part_burden p ≤ base_burden e w
room_by e w k p None at has = absurd (let z = has in cc)
room_by e w k p (Some n) at has =
    let v : Event = record { node = k; from = None } in
    let o : Occurs w v = record { node = n; input = Task; is_node = at; is_fed = refl } in
    let a = weight_bounds (node_base_burden e) (mine_base_burden e) w v o in
    let y = ap (weight_or part_burden) has in
    omega (arith, a, y)

pub version_room : (e : ℕ) (w : World) (k : ℕ) (p : PartView) → ((entity_flow e w).slot k).base.part ≡ Some p → p.version ≤ base_burden e w
version_room e w k p has = let few = room_by e w k p (slice_get w.nodes k) refl has in omega (arith, few)

module _ (f : Frame) (e ty : ℕ) (first : ℕ → ℕ) (batch : ℕ → List CallData) where
  abbrev Kept : World → Type 0
  Kept w = HasBaseCalls f e ty first batch w

  module _ (w : World) (h : Kept w) where
    abbrev flow : Flow Has Msg
    flow = entity_flow e w

    -- its version may rise
    pub version_may_rise : may_rise h.part.part.version ≡ true
    version_may_rise =
        let few = h.room in
        let its_own = version_room e w (home_of f e) h.part.part h.part.here in
        below_is (h.part.part.version + 1) limit (omega (arith, few, its_own))

    -- ---- what is there is the batch's

    module _ (k s : ℕ) (p : PartView) (has : (flow.slot k).base.part ≡ Some p) where
      abbrev turn : AreInTurn (first s) (batch s) (as_base_sender s flow)
      turn = h.turns s

      desk_there : desk_of ((as_base_sender s flow).slot k) ≡ Some (desk_of_part s p)
      desk_there = ap (part_desk s) has

      desk_is : desk_of_part s p ≡ turn.desk
      desk_is =
          (sole_here desk_of parcel_of (as_base_sender s flow) turn.place turn.desk (desk_of_part s p) k turn.in_turn.sole desk_there).1

    holds_own : (k : ℕ) → HoldsOwnCalls (flow.slot k).base
    holds_own k p o c has at item =
        let s = o.0 in
        let there : table.get p.orders s ≡ Some o.1 = (found order_is_ready p.orders o at).0 in
        let t = h.turns s in
        let due =
        held_is_due (first s) (batch s) (as_base_sender s flow) t.place t.desk t.in_turn k (order_or (table.get p.orders s)).next c
        (desk_of_part s p) (desk_there k s p has) (ap (λ y. next_item (order_or y)) there ∙ item) in
        (due_is (IsBaseCallOf f ty s) (first s) (batch s) (as_base_sender s flow) t.place t.desk t.in_turn (h.ours s) _ c due).sender

    -- ---- a call that is due at the part's node

    module _ (k : ℕ) (c : CallData) (home : k ≡ home_of f e) where
      abbrev s : ℕ
      s = rank_of c.sender

      abbrev its : AreInTurn (first s) (batch s) (as_base_sender s flow)
      its = h.turns s

      abbrev part : PartView
      part = h.part.part

      here : (flow.slot k).base.part ≡ Some part
      here = ap (λ x. (flow.slot x).base.part) home ∙ h.part.here

      module _ (met : item_at c.number (number_from its.desk.order.next its.in_turn.rest) ≡ Some c)
          (free : item_at c.number (order_of part.orders c.sender).held ≡ None) where
        bounds : (its.desk.order.next ≤ c.number) × (c.number < its.desk.order.next + length its.in_turn.rest)
        bounds = item_bounds c.number its.desk.order.next c its.in_turn.rest met

        due : (order_of part.orders c.sender).next ≤ c.number
        due =
            let same = ap (λ d. d.order.next) (desk_is k s part here) in
            let low = bounds.0 in
            omega (arith, same, low)

        fits : fits_base_part (here_at f k) part.ty c ≡ true
        fits =
            let fact =
            due_is (IsBaseCallOf f ty s) (first s) (batch s) (as_base_sender s flow) its.place its.desk its.in_turn (h.ours s) c.number c
            met in
            ap (λ y. fits_base_part (here_at f k) y c) h.part.type ∙ fact.fits

        may_be_offered : may_offer (order_of part.orders c.sender) c.number ≡ true
        may_be_offered =
            let low = bounds.0 in
            let high = bounds.1 in
            let next = its.in_turn.next in
            let parts = ap length its.in_turn.parts ∙ length-append its.desk.done its.in_turn.rest in
            let one = its.in_turn.in_order.from_one in
            let few = its.in_turn.small in
            all_two _ _ (below_is 0 c.number (omega (arith, low, one)))
            (all_two _ _ (below_is (c.number + 1) limit (omega (arith, high, next, parts, few))) (ap (λ x. not (is_some x)) free))

        pub finds_due : may_show part.proxy ≡ true → FindsPart f e k (flow.slot k).base c
        finds_due lines = record {
          home = home;
          part = part;
          here = here;
          may = all_two _ _ fits (all_two _ _ may_be_offered (all_two _ _ version_may_rise lines));
          due = due;
        }

    -- ---- a call that comes

    module _ (a k : ℕ) (c : CallData) (rest : List Msg) (at : flow.mail a k ≡ BaseCall c ∷ rest) where
      abbrev comes_from : ℕ
      comes_from = rank_of c.sender

      abbrev turn_of : AreInTurn (first comes_from) (batch comes_from) (as_base_sender comes_from flow)
      turn_of = h.turns comes_from

      seen : (as_base_sender comes_from flow).mail a k ≡ Item c.number c ∷ letters_of (base_mail comes_from) rest
      seen =
          ap (letters_of (base_mail comes_from)) at
          ∙ ap (λ x. more_letter x (letters_of (base_mail comes_from) rest)) (from_same comes_from c (Item c.number c) refl)

      comes_home : k ≡ home_of f e
      comes_home = (subst (AllByRecursion (IsHomeward f e k)) at (h.part.calls a k)).0 c refl

      pub finds : may_show h.part.part.proxy ≡ true → FindsPart f e k (flow.slot k).base c
      finds =
          let t = turn_of in
          finds_due k c comes_home
          (is_met (first comes_from) (batch comes_from) (as_base_sender comes_from flow) t.place t.desk t.in_turn a k c.number c
          (letters_of (base_mail comes_from) rest) seen).0
          (never_held (first comes_from) (batch comes_from) (as_base_sender comes_from flow) t.place t.desk t.in_turn a k c.number c
          (letters_of (base_mail comes_from) rest) seen (desk_of_part comes_from h.part.part)
          (desk_there k comes_from h.part.part (here k c comes_home)))

    -- ---- a call that is ordered at the part's own node

    module _ (c : CallData) (cs : List CallData) (at : calls_ordered (flow.slot (home_of f e)).base ≡ c ∷ cs) where
      abbrev ordered_by : ℕ
      ordered_by = rank_of c.sender

      abbrev turn_at : AreInTurn (first ordered_by) (batch ordered_by) (as_base_sender ordered_by flow)
      turn_at = h.turns ordered_by

      stored : ((as_base_sender ordered_by flow).slot (home_of f e)).stored ≡ (c.number, c) ∷ letters_of (numbered_from ordered_by) cs
      stored =
          ap (letters_of (numbered_from ordered_by)) at
          ∙ ap (λ o. more_letter o (letters_of (numbered_from ordered_by) cs)) (from_same ordered_by c (c.number, c) refl)

      pub finds_ordered : may_show h.part.part.proxy ≡ true → FindsPart f e (home_of f e) (flow.slot (home_of f e)).base c
      finds_ordered =
          let t = turn_at in
          finds_due (home_of f e) c refl
          (stored_is_due (first ordered_by) (batch ordered_by) (as_base_sender ordered_by flow) t.place t.desk t.in_turn (home_of f e)
          c.number c (letters_of (numbered_from ordered_by) cs) stored)
          (stored_is_free (first ordered_by) (batch ordered_by) (as_base_sender ordered_by flow) t.place t.desk t.in_turn (home_of f e)
          c.number c (letters_of (numbered_from ordered_by) cs) stored (desk_of_part ordered_by h.part.part)
          (desk_there (home_of f e) ordered_by h.part.part h.part.here))

  -- ---- an event

  module _ (w : World) (v : Event) (o : Occurs w v) (h : Kept w) (lines : may_show h.part.part.proxy ≡ true) where
    abbrev next : World
    next = happens node_steps w v

    abbrev step : Goes (MovesTo f e) (entity_flow e w) (entity_flow e next)
    step = event_moves f w v o h.part.frame e

    -- a call that comes finds its turn
    comes_due : (c : CallData) → comes step.input ≡ Some (BaseCall c) → FindsPart f e step.k ((entity_flow e w).slot step.k).base c
    comes_due c is =
        let i = first_is (λ x. None) Some (entity_flow e w) step.k step.input step.rest (BaseCall c) step.head (ap (carried_in Some) is) in
        let same : i.1 ≡ BaseCall c = let z = i.3 in cc in
        finds w h i.0 step.k c step.rest (i.4 ∙ ap (λ l. l ∷ step.rest) same) lines

    turns_happen : BaseCallsInTurn e first batch next
    turns_happen s =
        turn_goes (first s) (batch s) (as_base_sender s (entity_flow e w)) (as_base_sender s (entity_flow e next))
        (narrow_goes (base_post s) (base_mail s) Passes step
        (part_seen f e step.k s ((entity_flow e w).slot step.k) (comes step.input) ((entity_flow e next).slot step.k) step.moves.sent
        step.out step.moves.items comes_due (holds_own w h step.k) (λ os. unordered e w step.k os h.spared)
        (part_moves f e step.k ((entity_flow e w).slot step.k) (comes step.input) ((entity_flow e next).slot step.k) step.moves.sent
        step.moves.moves))) (h.turns s)

    pub kept_happens : Kept next
    kept_happens = record {
      part = part_goes f e ty step (frame_happens f w v o h.part.frame) (λ os. unordered e w step.k os h.spared) h.part;
      spared = spared_happens f e w v o h.part.frame h.spared;
      ours = h.ours;
      turns = turns_happen;
      room =
          let less = base_burden_happens f e w v o h.part.frame in
          let few = h.room in
          omega (arith, less, few);
    }
