-- What each move does with the generation of the real, and with the routes to it.
use Rattle.seam_law_rounds.proofs.Prelude.{◌≡◌, ℕ, ◌+◌, ◌<◌, ◌≤◌, Bool, true, false, cond, ◌&&◌, nat_lt, is_some, List, [], ◌∷◌, ◌++◌}
use Rattle.seam_law_rounds.proofs.Prelude.{Option, None, Some, refl, sym, ap, ◌∙◌, subst, arith, option_map, nat_tests, Division, RealView}
use Rattle.seam_law_rounds.proofs.Prelude.{Msg, Hand, Current, Reap, limit, is_small, cell_count, base_of, SlotStep, slot_after, haunts_at}
use Rattle.seam_law_rounds.proofs.Prelude.{ghost_messages, settled_to, currents, shown_of, looks_with, RouteView, stray_current, IsSilent}
use Rattle.seam_law_rounds.proofs.Prelude.{entry_in, greater_entry, Frame, IsTreeOf, here_at, Has, AtCell, Does, Acts, surveys, calls}
use Rattle.seam_law_rounds.proofs.Prelude.{readies, BaseMoves, Moves, at_a_cell, at_a_base, real_in, as_entry, route_entry, sent_route}
use Rattle.seam_law_rounds.proofs.Prelude.{SeesNoGhost, ghosts_silent, numbered_silent, FindsRoom, not_stray}
use Rattle.std.specs.FinSet as set
use Rattle.seam_law_calls.proofs.CellDeeds as deed
use Rattle.seam_law_calls.proofs.CellDeeds.{CellDeeds, cell_deeds, not_handed}
use Rattle.seam_law_calls.proofs.BaseDeeds.{RouteAfter, same_route, newer_of, base_route}
use Rattle.seam_law_calls.proofs.BaseSilent.{base_silent}
use Rattle.seam_node_steps.specs.Prelude.{Boundaries}
use Rattle.seam_law_calls.proofs.Holds.{not_both}

-- eyes that see hand-overs and routes
abbrev pub road_of : Msg → Option Msg
road_of (Hand r bs) = Some (Hand r bs)
road_of (Current e j g) = Some (Current e j g)
road_of _ = None

no_ghosts : SeesNoGhost road_of
no_ghosts = record { sets = λ e n c. refl; drops = λ e n. refl }

abbrev pub generation_of : RealView → ℕ
generation_of r = r.generation

abbrev pub generation_in : Has → Option ℕ
generation_in h = option_map generation_of (real_in h)

module _ (f : Frame) (e k : ℕ) (s : Has) (i : Option Msg) (t : Has) (sent : List (ℕ × Msg)) where
  -- the real stays or is nowhere here; it comes; or it goes
  pub data Roads : Type 0 where
    plain : ((r : RealView) (bs : Option Boundaries) → i ≡ Some (Hand r bs) → ⊥) → generation_in t ≡ generation_in s → t.cell.slot.next
        ≡ s.cell.slot.next
        → IsSilent road_of sent → Roads
    arrives : (r : RealView) (bs : Option Boundaries) → i ≡ Some (Hand r bs) → k < cell_count → real_in s ≡ None → real_in t ≡ Some r →
        t.cell.slot.next ≡ None
        → sent ≡ currents (here_at f k) r → Roads
    departs : (r q : RealView) (j : ℕ) (first : List (ℕ × Msg)) → ((x : RealView) (bs : Option Boundaries) → i ≡ Some (Hand x bs) → ⊥) →
        real_in s ≡ Some r
        → real_in t ≡ None → q.generation ≡ r.generation + 1 → t.cell.slot.next ≡ Some (record { cell = j; generation = q.generation })
        → IsSilent road_of first → sent ≡ first ++ (j, Hand q None) ∷ [] → Roads

  no_hand : i ≡ None → (r : RealView) (bs : Option Boundaries) → i ≡ Some (Hand r bs) → ⊥
  no_hand n r bs is = let z = sym n ∙ is in cc

  other : (m : Msg) → i ≡ Some m → ((r : RealView) (bs : Option Boundaries) → m ≡ Hand r bs → ⊥) → (r : RealView)
      (bs : Option Boundaries) → i ≡ Some (Hand r bs) → ⊥
  other m at n r bs is = n r bs (let z = sym at ∙ is in cc)

  silent_of : (l : List (ℕ × Msg)) → sent ≡ l → IsSilent road_of l → IsSilent road_of sent
  silent_of l is h = subst (IsSilent road_of) (sym is) h

  acts_hand : (u : AtCell) (r q : RealView) (changed : Bool) → Acts (here_at f k) e s.cell i r u q changed →
      (x : RealView) (bs : Option Boundaries) → i ≡ Some (Hand x bs) → ⊥
  acts_hand u r q changed (surveys n a b c) = no_hand a
  acts_hand u r q changed (calls c a b d g) = other _ a (λ x bs z. cc)
  acts_hand u r q changed (readies o c a b d g) = no_hand a

  acts_same : (u : AtCell) (r q : RealView) (changed : Bool) → Acts (here_at f k) e s.cell i r u q changed → q.generation ≡ r.generation
  acts_same u r q changed (surveys n a b c) = refl
  acts_same u r q changed _ = refl

  same : (x : SlotStep) (u : AtCell) → Does u x t.cell sent → (slot_after x.slot u.slot).real ≡ real_in s →
      generation_in t ≡ generation_in s
  same x u d is = ap (λ a. option_map generation_of a.slot.real) d.state ∙ ap (option_map generation_of) is

  turned : (x : SlotStep) (u : AtCell) (r q : RealView) → Does u x t.cell sent → real_in s ≡ Some r →
      (slot_after x.slot u.slot).real ≡ Some q → q.generation ≡ r.generation → generation_in t ≡ generation_in s
  turned x u r q d has is gen =
      ap (λ a. option_map generation_of a.slot.real) d.state
      ∙ (ap (option_map generation_of) is ∙ (ap Some gen ∙ sym (ap (option_map generation_of) has)))

  next_of : (x : SlotStep) (u : AtCell) → Does u x t.cell sent → (slot_after x.slot u.slot).next ≡ s.cell.slot.next →
      t.cell.slot.next ≡ s.cell.slot.next
  next_of x u d is = ap (λ a. a.slot.next) d.state ∙ is

  module _ (room : (r : RealView) (bs : Option Boundaries) → i ≡ Some (Hand r bs) → FindsRoom f k s r)
      (spared : i ≡ Some (Reap e) → ⊥) where
    cell_roads : k < cell_count → (tree : Division) → IsTreeOf f tree → CellDeeds (here_at f k) tree e s.cell i t.cell sent → Roads
    cell_roads low tree of (deed.idles a z) =
        plain (λ r bs is. not_stray f k s r (room r bs is) tree of (not_handed a.why r bs is)) (ap (option_map generation_of) a.real) a.next
        (silent_of [] z tt)
    cell_roads low tree of (deed.stays u r q changed has own acts at d) =
        plain (acts_hand u r q changed acts) (turned _ u r _ d has refl (acts_same u r q changed acts)) (next_of _ u d refl)
        (silent_of _ d.sends (ghosts_silent road_of no_ghosts (here_at f k) q k (haunts_at
        (here_at f k) tree q.state.pos k q.haunts) changed))
    cell_roads low tree of (deed.goes u r q changed j has own acts at n d) =
        let haunts = haunts_at (here_at f k) tree q.state.pos j (set.insert q.haunts k) in
        departs r (settled_to q haunts (q.beat + 1) (q.generation + 1)) j (ghost_messages (here_at f k) q j haunts changed)
        (acts_hand u r q changed acts) has (ap (λ a. a.slot.real) d.state) (ap (λ x. x + 1) (acts_same u r q changed acts))
        (ap (λ a. a.slot.next) d.state)
        (ghosts_silent road_of no_ghosts (here_at f k) q j haunts changed) d.sends
    cell_roads low tree of (deed.holds c r n own has mine may lt d) =
        plain (other _ n (λ x bs z. cc)) (turned _ s.cell r _ d has refl refl) (next_of _ s.cell d refl) (silent_of [] d.sends tt)
    cell_roads low tree of (deed.passes c p n own has at d) = plain (other _ n (λ x bs z. cc)) (same _ s.cell d refl)
        (next_of _ s.cell d refl)
        (silent_of _ d.sends (refl, tt))
    cell_roads low tree of (deed.lands r bs n own has may d) = arrives r bs n low has (ap (λ a. a.slot.real) d.state) (ap
        (λ a. a.slot.next) d.state) d.sends
    cell_roads low tree of (deed.reaped r n has own may d) = absurd (spared n)
    cell_roads low tree of (deed.looks n r w known is at has own v small d) =
        plain (no_hand is) (turned (looks_with (here_at f k) s.cell.slot r w known (shown_of
        (here_at f k) r w known)) _ r _ d has refl refl)
        (next_of (looks_with (here_at f k) s.cell.slot r w known (shown_of (here_at f k) r w known)) _ d refl)
        (silent_of _ d.sends (numbered_silent road_of (base_of (here_at f k) r.entity) r.entity w.sent _ (λ u. refl)))

    hand_at_base : cell_count ≤ k → (r : RealView) (bs : Option Boundaries) → i ≡ Some (Hand r bs) → ⊥
    hand_at_base high r bs is = let low = (room r bs is).cell in omega (arith, low, high)

    base_roads : cell_count ≤ k → t.cell ≡ s.cell → (cells : ℕ) → BaseMoves (here_at f k) cells e s.base i t.base sent → Roads
    base_roads high cell cells m =
        plain (hand_at_base high) (ap (λ (c : AtCell). option_map generation_of c.slot.real) cell)
        (ap (λ (c : AtCell). c.slot.next) cell)
        (base_silent road_of (record { calls = λ c. refl; base_calls = λ c. refl; ticks = refl; reaps = λ e. refl }) _ cells e _ i _ sent m)

    pub roads : Moves f e k s i t sent → Roads
    roads (at_a_cell tree of low m is) = cell_roads low tree of (cell_deeds m)
    roads (at_a_base high m is) = base_roads high is _ m

-- ---- the route of a base node takes the newer one

-- a route that comes names a cell, and its generation is small
abbrev pub IsGoodRoute : Msg → Type 0
IsGoodRoute m = (x j g : ℕ) → m ≡ Current x j g → (j < cell_count) × (g < limit)

module _ (f : Frame) (e k : ℕ) (s : Has) (i : Option Msg) (t : Has) (sent : List (ℕ × Msg)) (high : cell_count ≤ k)
    (routed : is_some s.base.route ≡ true) (good : (m : Msg) → i ≡ Some m → IsGoodRoute m) where
  pub record Reroutes : Type 0 where
    pub there : is_some t.base.route ≡ true
    pub takes : route_entry t ≡ greater_entry (route_entry s) (entry_in sent_route i)

  kept : t.base.route ≡ s.base.route → entry_in sent_route i ≡ None → Reroutes
  kept is none = record {
    there = ap is_some is ∙ routed;
    takes = ap as_entry is ∙ sym (ap (greater_entry (route_entry s)) none);
  }

  newer_by : (r new : RouteView) (b : Bool) → as_entry (Some (cond b new r)) ≡ cond b (new.generation, new.cell) (r.generation, r.cell)
  newer_by r new true = refl
  newer_by r new false = refl

  stray_by : (o : Option RouteView) → is_some o ≡ true → (j g : ℕ) → (j < cell_count) × (g < limit) →
      stray_current (record { cell = j; generation = g }) o ≡ true → ⊥
  stray_by None h j g p b = cc
  stray_by (Some r) h j g p b =
      let low = p.0 in
      let few = p.1 in
      not_both (nat_lt j cell_count && is_small g) (both_are (nat_lt j cell_count) (is_small g) (grind (arith, nat_tests, low)) (grind
      (arith, nat_tests, few))) b
    where
      both_are : (a b : Bool) → a ≡ true → b ≡ true → (a && b) ≡ true
      both_are true b x y = y
      both_are false b x y = cc

  kept_by : t.base.route ≡ s.base.route → (j : Option Msg) → i ≡ j → ((x c g : ℕ) → i ≡ Some (Current x c g) →
      stray_current (record { cell = c; generation = g }) s.base.route ≡ true) → Reroutes
  kept_by is (Some (Current x c g)) n stray =
      absurd (stray_by s.base.route routed c g (good (Current x c g) n x c g refl) (stray x c g n))
  kept_by is None n stray = kept is (ap (entry_in sent_route) n)
  kept_by is (Some m) n stray = kept is (ap (entry_in sent_route) n)

  base_reroutes : RouteAfter e s.base i t.base → Reroutes
  base_reroutes (same_route is stray) = kept_by is i refl stray
  base_reroutes (newer_of new r n has now) = record {
    there = ap is_some now;
    takes =
        ap as_entry now
        ∙ (newer_by r new (nat_lt r.generation new.generation)
        ∙ sym (ap (λ o. greater_entry (as_entry o) (entry_in sent_route i)) has ∙ ap (greater_entry (r.generation, r.cell)) (ap
        (entry_in sent_route) n)));
  }

  pub reroutes : Moves f e k s i t sent → Reroutes
  reroutes (at_a_cell tree of low m is) = absurd (omega (arith, low, high))
  reroutes (at_a_base up m is) = base_reroutes (base_route m)
