-- What each move does with what leads to the entity's real.
use Rattle.seam_law_calls.proofs.Prelude.{◌≡◌, ℕ, ◌+◌, ◌≤◌, ◌⊎◌, Bool, true, false, cond, ◌||◌, nat_lt, is_some, List, [], ◌∷◌, ◌++◌, map}
use Rattle.seam_law_calls.proofs.Prelude.{Option, None, Some, refl, sym, ap, ◌∙◌, subst, arith, inl, inr, range_with_len, Division}
use Rattle.seam_law_calls.proofs.Prelude.{Call as CallData, RealView, Msg, BaseCall, Hand, Current, Reap, cell_count, base_numbers, base_of}
use Rattle.seam_law_calls.proofs.Prelude.{Slot, NextPlace, SlotStep, slot_after, haunts_at, ghost_messages, settled_to, RouteView, tick_to}
use Rattle.seam_law_calls.proofs.Prelude.{IsSilent, Frame, IsTreeOf, here_at, Has, AtCell, Does, Acts, surveys, calls, readies, BaseMoves}
use Rattle.seam_law_calls.proofs.Prelude.{Moves, at_a_cell, at_a_base, is_visited, is_call, all_append}
use Rattle.std.specs.FinSet as set
use Rattle.seam_entity.specs.declared.message.Msg.TheVariants.{Call}
use Rattle.seam_law_calls.proofs.CellDeeds as deed
use Rattle.seam_law_calls.proofs.CellDeeds.{CellDeeds, cell_deeds, not_handed}
use Rattle.seam_law_calls.proofs.BaseDeeds as base_deed
use Rattle.seam_law_calls.proofs.BaseDeeds.{BaseDeeds, RouteAfter, same_route, newer_of, base_deeds, base_route}
use Rattle.seam_law_calls.proofs.Plain.{SeesNoGhost, ghosts_silent, mapped_silent, numbered_silent}
use Rattle.seam_law_calls.proofs.Handling.{FindsRoom, not_stray}
use Rattle.seam_node_steps.specs.Prelude.{Boundaries}

abbrev pub kept : Bool → Option ℕ
kept true = Some 0
kept false = None

-- eyes that see calls, and eyes that see routes
abbrev pub call_in : Msg → Option ℕ
call_in m = kept (is_call m)

abbrev pub route_in : Msg → Option ℕ
route_in (Current e j g) = Some j
route_in _ = None

no_calls : SeesNoGhost call_in
no_calls = record { sets = λ e n c. refl; drops = λ e n. refl }

no_routes : SeesNoGhost route_in
no_routes = record { sets = λ e n c. refl; drops = λ e n. refl }

-- where the call that node with s sends goes
pub data Way (s : Has) (i : Option Msg) (j : ℕ) : Type 0 where
  by_next : (n : NextPlace) → s.cell.slot.next ≡ Some n → n.cell ≡ j →
      ((r : RealView) (bs : Option Boundaries) → i ≡ Some (Hand r bs) → ⊥) → Way s i j
  by_route : (r : RouteView) → s.base.route ≡ Some r → r.cell ≡ j → Way s i j

-- what the node sends: neither calls nor routes, routes to itself where the real is, or one call
pub data Sends (k : ℕ) (s : Has) (i : Option Msg) (t : Has) (sent : List (ℕ × Msg)) : Type 0 where
  plain : IsSilent call_in sent → IsSilent route_in sent → Sends k s i t sent
  tells : (r : RealView) (ks : List ℕ) → sent ≡ map (λ b. (b, Current r.entity k r.generation)) ks → is_visited t ≡ true →
      Sends k s i t sent
  one_call : (c : CallData) (j : ℕ) → sent ≡ (j, Call c) ∷ [] → Way s i j → Sends k s i t sent

pub record Leads (k : ℕ) (s : Has) (i : Option Msg) (t : Has) (sent : List (ℕ × Msg)) : Type 0 where
  pub visited : is_visited s ≡ true → is_visited t ≡ true
  pub landed : (r : RealView) (bs : Option Boundaries) → i ≡ Some (Hand r bs) → is_visited t ≡ true
  pub next : (n : NextPlace) → t.cell.slot.next ≡ Some n → (s.cell.slot.next ≡ Some n) ⊎
      ((xs : List (ℕ × Msg)) × (r : RealView) × (sent ≡ xs ++ (n.cell, Hand r None) ∷ []))
  pub route : (r : RouteView) → t.base.route ≡ Some r → (s.base.route ≡ Some r) ⊎ ((e : ℕ) × (i ≡ Some (Current e r.cell r.generation)))
  pub sends : Sends k s i t sent

abbrev seen : Slot → Bool
seen a = is_some a.real || is_some a.next

module _ (f : Frame) (e k : ℕ) (s : Has) (i : Option Msg) (t : Has) (sent : List (ℕ × Msg))
    (room : (r : RealView) (bs : Option Boundaries) → i ≡ Some (Hand r bs) → FindsRoom f k s r) (unreaped : i ≡ Some (Reap e) → ⊥) where
  abbrev Goal : Type 0
  Goal = Leads k s i t sent

  abbrev NoHand : Type 0
  NoHand = (r : RealView) (bs : Option Boundaries) → i ≡ Some (Hand r bs) → ⊥

  -- nothing that leads is changed
  same : NoHand → is_visited t ≡ is_visited s → t.cell.slot.next ≡ s.cell.slot.next → t.base.route ≡ s.base.route → Sends k s i t sent →
      Goal
  same nh v n r d = record {
    visited = λ h. v ∙ h;
    landed = λ q bs h. absurd (nh q bs h);
    next = λ q h. inl (sym n ∙ h);
    route = λ q h. inl (sym r ∙ h);
    sends = d;
  }

  -- the real is here, and the next place is as it was
  here : NoHand → is_visited t ≡ true → t.cell.slot.next ≡ s.cell.slot.next → t.base.route ≡ s.base.route → Sends k s i t sent → Goal
  here nh v n r d = record {
    visited = λ h. v;
    landed = λ q bs h. v;
    next = λ q h. inl (sym n ∙ h);
    route = λ q h. inl (sym r ∙ h);
    sends = d;
  }

  no_task : i ≡ None → NoHand
  no_task n r bs h = let z = sym n ∙ h in cc

  acts_no : (u : AtCell) (r q : RealView) (changed : Bool) → Acts (here_at f k) e s.cell i r u q changed → NoHand
  acts_no u r q changed (surveys n a b c) = no_task a
  acts_no u r q changed (calls c a b d g) = λ x bs h. let z = sym a ∙ h in cc
  acts_no u r q changed (readies o c a b d g) = no_task a

  module _ (x : SlotStep) (u : AtCell) (d : Does u x t.cell sent) where
    seen_is : is_visited t ≡ seen (slot_after x.slot u.slot)
    seen_is = ap (λ a. seen a.slot) d.state

    next_is : t.cell.slot.next ≡ (slot_after x.slot u.slot).next
    next_is = ap (λ a. a.slot.next) d.state

    quiet : IsSilent call_in x.sent → IsSilent route_in x.sent → Sends k s i t sent
    quiet a b = plain (subst (IsSilent call_in) (sym d.sends) a) (subst (IsSilent route_in) (sym d.sends) b)

  cell_leads : t.base ≡ s.base → (tree : Division) → IsTreeOf f tree → CellDeeds (here_at f k) tree e s.cell i t.cell sent → Goal
  cell_leads b tree of (deed.idles a z) =
      same (λ r bs is. not_stray f k s r (room r bs is) tree of (not_handed a.why r bs is)) (ap2 a.real a.next) a.next (ap (λ a. a.route) b)
      (plain (subst (IsSilent call_in) (sym z) tt) (subst (IsSilent route_in) (sym z) tt))
    where
      ap2 : t.cell.slot.real ≡ s.cell.slot.real → t.cell.slot.next ≡ s.cell.slot.next → is_visited t ≡ is_visited s
      ap2 real next = ap (λ r. is_some r || is_some t.cell.slot.next) real ∙ ap (λ n. is_some s.cell.slot.real || is_some n) next
  cell_leads b tree of (deed.stays u r q changed has own acts at d) =
      let haunts = haunts_at (here_at f k) tree q.state.pos k q.haunts in
      here (acts_no u r q changed acts) (seen_is _ u d) (next_is _ u d) (ap (λ a. a.route) b)
      (quiet _ u d (ghosts_silent call_in no_calls (here_at f k) q k haunts changed)
      (ghosts_silent route_in no_routes (here_at f k) q k haunts changed))
  cell_leads b tree of (deed.goes u r q changed j has own acts at n d) =
      let haunts = haunts_at (here_at f k) tree q.state.pos j (set.insert q.haunts k) in
      let told = ghost_messages (here_at f k) q j haunts changed in
      let gone = settled_to q haunts (q.beat + 1) (q.generation + 1) in
      record {
        visited = λ h. seen_is _ u d;
        landed = λ x bs h. seen_is _ u d;
        next =
            λ x h. inr (
              told,
              gone,
              d.sends ∙ ap (λ y. told ++ (y, Hand gone None) ∷ [])
                  (new_next j (q.generation + 1) x (sym (next_is _ u d) ∙ h)),
            );
        route = λ x h. inl (sym (ap (λ a. a.route) b) ∙ h);
        sends =
            quiet _ u d
            (all_append (λ p. call_in p.1 ≡ None) told ((j, Hand gone None) ∷ [])
            (ghosts_silent call_in no_calls (here_at f k) q j haunts changed)
            (refl, tt))
            (all_append (λ p. route_in p.1 ≡ None) told ((j, Hand gone None) ∷ [])
            (ghosts_silent route_in no_routes (here_at f k) q j haunts changed) (refl, tt));
      }
    where
      new_next : (j g : ℕ) (x : NextPlace) → Some (record { cell = j; generation = g }) ≡ Some x → j ≡ x.cell
      new_next j g x h = let z : record { cell = j; generation = g } ≡ x = cc in ap (λ y. y.cell) z
  cell_leads b tree of (deed.holds c r n own has mine may lt d) =
      here (λ q bs h. let z = sym n ∙ h in cc) (seen_is _ s.cell d) (next_is _ s.cell d) (ap (λ a. a.route) b) (quiet _ s.cell d tt tt)
  cell_leads b tree of (deed.passes c p n own has at d) =
      same (λ q bs h. let z = sym n ∙ h in cc) (seen_is _ s.cell d) (next_is _ s.cell d) (ap (λ a. a.route) b)
      (one_call c p.cell d.sends (by_next p at refl (λ q bs h. let z = sym n ∙ h in cc)))
  cell_leads b tree of (deed.lands r bs n own has may d) = record {
    visited = λ h. seen_is _ s.cell d;
    landed = λ q bs h. seen_is _ s.cell d;
    next = λ q h. absurd (let z = sym (next_is _ s.cell d) ∙ h in cc);
    route = λ q h. inl (sym (ap (λ a. a.route) b) ∙ h);
    sends = tells r (base_numbers (here_at f k)) d.sends (seen_is _ s.cell d);
  }
  cell_leads b tree of (deed.reaped r n has own may d) = absurd (unreaped n)
  cell_leads b tree of (deed.looks n r w known h at has own is small d) =
      here (no_task h) (seen_is _ _ d) (next_is _ _ d) (ap (λ a. a.route) b)
      (quiet _ _ d (numbered_silent call_in (base_of (here_at f k) r.entity) r.entity w.sent _ (λ u. refl))
      (numbered_silent route_in (base_of (here_at f k) r.entity) r.entity w.sent _ (λ u. refl)))

  -- ---- a base node

  module _ (high : cell_count ≤ k) (is : t.cell ≡ s.cell) where
    no_hand : NoHand
    no_hand r bs h = let p = room r bs h in let low = p.cell in omega (arith, low, high)

    nothing : sent ≡ [] → Sends k s i t sent
    nothing z = plain (subst (IsSilent call_in) (sym z) tt) (subst (IsSilent route_in) (sym z) tt)

    other : (j : ℕ) (m : Msg) → call_in m ≡ None → route_in m ≡ None → sent ≡ (j, m) ∷ [] → Sends k s i t sent
    other j m a b z = plain (subst (IsSilent call_in) (sym z) (a, tt)) (subst (IsSilent route_in) (sym z) (b, tt))

    newer_by : (new r x : RouteView) (b : Bool) → s.base.route ≡ Some r → i ≡ Some (Current e new.cell new.generation) →
        Some (cond b new r) ≡ Some x → (s.base.route ≡ Some x) ⊎ ((e : ℕ) × (i ≡ Some (Current e x.cell x.generation)))
    newer_by new r x true has came h =
        let z : new ≡ x = cc in
        inr (e, came ∙ ap (λ y. Some (Current e y.cell y.generation)) z)
    newer_by new r x false has came h = inl (has ∙ h)

    base_sends : (cells : ℕ) → BaseDeeds (here_at f k) cells e s.base i t.base sent → Sends k s i t sent
    base_sends cells (base_deed.stays orders z) = nothing z
    base_sends cells (base_deed.calls c r n at has z) = one_call c r.cell z (by_route r has refl)
    base_sends cells (base_deed.base_calls c n at z) = other (base_of (here_at f k) e) (BaseCall c) refl refl z
    base_sends cells (base_deed.serves c n at z) = nothing z
    base_sends cells (base_deed.ticks n at z) =
        plain (subst (IsSilent call_in) (sym z) (mapped_silent call_in tick_to (λ j. refl) (range_with_len 0 cells)))
        (subst (IsSilent route_in) (sym z) (mapped_silent route_in tick_to (λ j. refl) (range_with_len 0 cells)))
    base_sends cells (base_deed.reaps r n at has z) = other r.cell (Reap e) refl refl z

    base_routes : RouteAfter e s.base i t.base → (x : RouteView) → t.base.route ≡ Some x →
        (s.base.route ≡ Some x) ⊎ ((e : ℕ) × (i ≡ Some (Current e x.cell x.generation)))
    base_routes (same_route same stray) x h = inl (sym same ∙ h)
    base_routes (newer_of new r n has now) x h =
        newer_by new r x (nat_lt r.generation new.generation) has n (sym now ∙ h)

    base_leads : (cells : ℕ) → BaseMoves (here_at f k) cells e s.base i t.base sent → Goal
    base_leads cells m = record {
      visited = λ h. ap (λ a. seen a.slot) is ∙ h;
      landed = λ q bs h. absurd (no_hand q bs h);
      next = λ q h. inl (sym (ap (λ a. a.slot.next) is) ∙ h);
      route = base_routes (base_route m);
      sends = base_sends cells (base_deeds m);
    }

  pub leads : Moves f e k s i t sent → Goal
  leads (at_a_cell tree of low m b) = cell_leads b tree of (cell_deeds m)
  leads (at_a_base high m is) = base_leads high is _ m
