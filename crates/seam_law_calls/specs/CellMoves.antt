-- What a cell may do with one entity, a constructor a kind of move.
use Rattle.std.specs.Prelude.{◌≡◌, ℕ, ◌+◌, ◌<◌, Bool, true, false, if◌then◌else◌, is_some, List, [], ◌∷◌, length, Option, None, Some}
use Rattle.seam_node_steps.specs.Prelude.{Division, OrderView, next_item, Call as CallData, GhostCopy, order_of, RealView, WitnessView, Msg}
use Rattle.seam_node_steps.specs.Prelude.{Hand, GhostSet, GhostDrop, Tick, Reap, is_small, may_rise, Here, has_ready, ready_order}
use Rattle.seam_node_steps.specs.Prelude.{may_settle, may_execute, may_call, with_offer, executed, executed_ready, shows, NextPlace}
use Rattle.seam_node_steps.specs.Prelude.{SlotStep, slot_after, becomes, heard, home_after, is_stray, may_come, hand_over_comes, reap}
use Rattle.seam_node_steps.specs.Prelude.{stray_survey, Known, shown_of, looks_with, stray_look}
use Rattle.seam_entity.specs.declared.message.Msg.TheVariants.{Call}
use Rattle.seam_node_steps.specs.Slots as slot_step
use Rattle.seam_node_steps.specs.Settle as settle
use Rattle.seam_law_calls.specs.Sights.{AtCell}
use Rattle.seam_node_steps.specs.Prelude.{Boundaries, at_start}

abbrev pub unlisted_if : Bool → ℕ → ℕ
unlisted_if true n = 0
unlisted_if false n = n

-- what the cell has of the entity after a step of its slot
abbrev pub after_step : AtCell → SlotStep → AtCell
after_step s x = record {
  slot = slot_after x.slot s.slot;
  survey = unlisted_if x.unlisted s.survey;
  looks = unlisted_if x.unlisted s.looks;
}

-- from s the step of the slot leads to t, and this is what it sends
pub record Does (s : AtCell) (x : SlotStep) (t : AtCell) (sent : List (ℕ × Msg)) : Type 0 where
  pub state : t ≡ after_step s x
  pub sends : sent ≡ x.sent

-- why a real r settles, as which real q, and whether others may see a change: the survey list's entry was taken, a call came in its
-- turn, or a held call was ready. u is s without the entry that was taken
pub data Acts (h : Here) (e : ℕ) (s : AtCell) (i : Option Msg) (r : RealView) : AtCell → RealView → Bool → Type 0 where
  surveys : (n : ℕ) → i ≡ None → s.survey ≡ n + 1 → may_settle r ≡ true → Acts h e s i r (record s { survey = n }) r false
  calls : (c : CallData) → i ≡ Some (Call c) → c.entity ≡ e → may_call h r c ≡ true → c.number ≡ (order_of r.orders c.sender).next
      → Acts h e s i r s (executed h r c) (shows h r c)
  readies : (o : ℕ × OrderView CallData) (c : CallData) → i ≡ None → may_execute r ≡ true → ready_order r.orders ≡ Some o
      → next_item o.1 ≡ Some c → Acts h e s i r s (executed_ready h r o c) (shows h r c)

abbrev pub has_witness : Option RealView → Bool
has_witness None = false
has_witness (Some r) = is_some r.witness

-- how often it is in the look list after a tick
abbrev pub looks_after_tick : Option RealView → ℕ
looks_after_tick o = if has_witness o then 1 else 0

-- a cell with the tree t from the round's start on, which has s of entity e, is fed i, has v afterwards and sends this about e
pub data CellMoves (h : Here) (t : Division) (e : ℕ) (s : AtCell) (i : Option Msg) (v : AtCell) (sent : List (ℕ × Msg)) : Type 0 where
  -- nothing comes and nothing changes
  rests : i ≡ None → Does s slot_step.rests v sent → CellMoves h t e s i v sent
  -- stray input
  strays : (m : Msg) → i ≡ Some m → is_stray h t s.slot m ≡ true → Does s slot_step.rests v sent
      → CellMoves h t e s i v sent
  -- the real settles, and stays
  stays : (u : AtCell) (r q : RealView) (changed : Bool) → s.slot.real ≡ Some r → r.entity ≡ e
      → Acts h e s i r u q changed → home_after h t q.state.pos ≡ h.me
      → Does u (settle.stays h t s.slot q changed) v sent → CellMoves h t e s i v sent
  -- the real settles, and is handed over to cell j
  goes : (u : AtCell) (r q : RealView) (changed : Bool) (j : ℕ) → s.slot.real ≡ Some r → r.entity ≡ e
      → Acts h e s i r u q changed → home_after h t q.state.pos ≡ j → (j ≡ h.me → ⊥)
      → Does u (settle.goes h (at_start t) s.slot q changed j) v sent → CellMoves h t e s i v sent
  -- a call whose turn is over
  late : (c : CallData) (r : RealView) → i ≡ Some (Call c) → s.slot.real ≡ Some r → may_call h r c ≡ true
      → c.number < (order_of r.orders c.sender).next → Does s slot_step.rests v sent → CellMoves h t e s i v sent
  -- a call that is early is held
  holds : (c : CallData) (r : RealView) → i ≡ Some (Call c) → c.entity ≡ e → s.slot.real ≡ Some r → r.entity ≡ e
      → may_call h r c ≡ true
      → (order_of r.orders c.sender).next < c.number → Does s (becomes (record s.slot { real = Some (with_offer r c) })) v sent
      → CellMoves h t e s i v sent
  -- a call is passed on to the next place
  passes : (c : CallData) (n : NextPlace) → i ≡ Some (Call c) → c.entity ≡ e → s.slot.real ≡ None → s.slot.next ≡ Some n
      → Does s (record { slot = None; unlisted = false; sent = (n.cell, Call c) ∷ [] }) v sent → CellMoves h t e s i v sent
  -- a hand-over comes
  lands : (r : RealView) (bs : Option Boundaries) → i ≡ Some (Hand r bs) → r.entity ≡ e → s.slot.real ≡ None → may_come h t r ≡ true
      → Does s (hand_over_comes h s.slot r) v sent → CellMoves h t e s i v sent
  -- a copy comes; it is ignored where the real is here
  hears_set : (beat : ℕ) (c : GhostCopy) → i ≡ Some (GhostSet e beat c) → s.slot.real ≡ None
      → Does s (becomes (heard s.slot beat (Some c))) v sent → CellMoves h t e s i v sent
  ignores_set : (beat : ℕ) (c : GhostCopy) (r : RealView) → i ≡ Some (GhostSet e beat c) → s.slot.real ≡ Some r
      → Does s slot_step.rests v sent → CellMoves h t e s i v sent
  -- the cell is no haunt any more
  hears_drop : (beat : ℕ) → i ≡ Some (GhostDrop e beat) → Does s (becomes (heard s.slot beat None)) v sent → CellMoves h t e s i v sent
  -- the entity leaves the world
  reaped : (r : RealView) → i ≡ Some (Reap e) → s.slot.real ≡ Some r → r.entity ≡ e → may_rise r.beat ≡ true
      → Does s (reap s.slot (Some r)) v sent → CellMoves h t e s i v sent
  -- the look list is made anew
  ticks : i ≡ Some Tick → v ≡ record s { looks = looks_after_tick s.slot.real } → sent ≡ [] → CellMoves h t e s i v sent
  -- an entry of the survey list is taken, of a real that is not here or may not settle
  unlists : (n : ℕ) → i ≡ None → s.survey ≡ n + 1 → stray_survey s.slot.real ≡ true → Does (record s { survey = n }) slot_step.rests v sent
      → CellMoves h t e s i v sent
  -- an entry of the look list is taken: the witness looks at what is known of others
  looks : (n : ℕ) (r : RealView) (w : WitnessView) (known : List Known) → i ≡ None → s.looks ≡ n + 1 → s.slot.real ≡ Some r → r.entity ≡ e
      → r.witness ≡ Some w → is_small (w.sent + length (shown_of h r w known)) ≡ true
      → Does (record s { looks = n }) (looks_with h s.slot r w known (shown_of h r w known)) v sent
      → CellMoves h t e s i v sent
  -- the same of an entity that may not look
  overlooks : (n : ℕ) (known : List Known) → i ≡ None → s.looks ≡ n + 1 → stray_look h s.slot.real known ≡ true
      → Does (record s { looks = n }) slot_step.rests v sent → CellMoves h t e s i v sent
  -- a call is ready that the real may not execute
  stuck : (r : RealView) → i ≡ None → s.slot.real ≡ Some r → has_ready r.orders ≡ true → may_execute r ≡ false
      → Does s slot_step.rests v sent → CellMoves h t e s i v sent
