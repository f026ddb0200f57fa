-- Where entities are reaped, and where witnesses look, a cell gets no copy: each that it has is the one that it had.
use Rattle.seam_law_ghosts.proofs.Prelude.{◌≡◌, ℕ, ◌+◌, Bool, true, false, ltb, cond, List, [], Option, None, Some, sym, ap, ◌∙◌, arith}
use Rattle.seam_law_ghosts.proofs.Prelude.{Division, happens, LeadsTo, Ghost, copy_in, beat_in, ghost_after, GhostCopy, RealView, Msg, Hand}
use Rattle.seam_law_ghosts.proofs.Prelude.{GhostSet, SlotStep, slot_after, order_or, may_rise, Event, holders, NodeView, World, node_steps}
use Rattle.seam_law_ghosts.proofs.Prelude.{node_has_work, reap_ordered_at, ordered_at, reaps_loaded, look_loaded, Goes, comes, Frame}
use Rattle.seam_law_ghosts.proofs.Prelude.{here_at, Has, AtCell, entity_flow, Does, Acts, surveys, calls, readies, Moves, MovesTo}
use Rattle.seam_law_ghosts.proofs.Prelude.{at_a_cell, at_a_base, real_in, IsFrame, IsSettled, IsBetweenRounds, each, AreReapable}
use Rattle.seam_law_ghosts.proofs.Prelude.{book_entry, copy_at, slots_kept, came, event_moves, quiet_home, IsSame, IsCalmTo, IsCalm}
use Rattle.seam_law_ghosts.proofs.Prelude.{none_ready, reaps_cell, look_cell, EachKeeps, runs_keep, calm_keeps}
use Rattle.std.specs.FinMap as table
use Rattle.seam_entity.specs.declared.message.Msg.TheVariants.{Call}
use Rattle.seam_law_calls.proofs.CellDeeds as deed
use Rattle.seam_law_calls.proofs.CellDeeds.{CellDeeds, cell_deeds}
use Rattle.seam_law_rounds.proofs.Reaping as reaping
use Rattle.seam_law_rounds.proofs.Looking as looking
use Rattle.seam_law_ghosts.proofs.Loading.{books_turned}

-- ---- a move

-- a copy of the second is one of the first
abbrev Copies : Option GhostCopy → Option GhostCopy → Type 0
Copies o p = (c : GhostCopy) → p ≡ Some c → o ≡ Some c

-- a book that is told to have no copy has the one that it had, or none
dropped_by : (g : Option (Ghost GhostCopy)) (n : ℕ) (b : Bool) →
    Copies (copy_in g) (copy_in (cond b (Some (record { beat = n; copy = None })) g))
dropped_by g n true c is = cc
dropped_by g n false c is = is

dropped : (g : Option (Ghost GhostCopy)) (n : ℕ) → Copies (copy_in g) (copy_in (ghost_after g (record { beat = n; copy = None })))
dropped g n = dropped_by g n (ltb (beat_in g) n)

module _ (f : Frame) (e home : ℕ) (r : RealView) (told : Bool) (k : ℕ) (s : Has) (i : Option Msg) (t : Has) (sent : List (ℕ × Msg))
    (come : (m : Msg) → i ≡ Some m → IsCalmTo told home r k m) (survey : s.cell.survey ≡ 0)
    (idle : (q : RealView) → real_in s ≡ Some q → (x : ℕ) → (order_or (table.get q.orders x)).held ≡ []) where
  abbrev Kept : Type 0
  Kept = Copies (copy_in s.cell.slot.ghost) (copy_in t.cell.slot.ghost)

  acts_never : (u : AtCell) (p q : RealView) (changed : Bool) → real_in s ≡ Some p → Acts (here_at f k) e s.cell i p u q changed → ⊥
  acts_never u p q changed has (surveys n a b c) = let zero = survey in omega (arith, b, zero)
  acts_never u p q changed has (calls c a b d g) = come (Call c) a
  acts_never u p q changed has (readies o c a b d g) = none_ready p.orders (idle p has) o c d g

  steps : (x : SlotStep) (u : AtCell) → Does u x t.cell sent →
      Copies (copy_in s.cell.slot.ghost) (copy_in (slot_after x.slot u.slot).ghost) → Kept
  steps x u d keeps c is = keeps c (sym (ap (λ a. copy_in a.slot.ghost) d.state) ∙ is)

  same : Copies (copy_in s.cell.slot.ghost) (copy_in s.cell.slot.ghost)
  same c is = is

  cell_keeps : {tree : Division} → CellDeeds (here_at f k) tree e s.cell i t.cell sent → Kept
  cell_keeps (deed.idles a z) = kept a.heard
    where
      kept : deed.HeardOf e s.cell i t.cell → Kept
      kept (deed.as_before is) = λ c at. sym (ap copy_in is) ∙ at
      kept (deed.set_to n c is none book) = absurd (come (GhostSet e n c) is)
      kept (deed.dropped n is book) = λ c at. dropped s.cell.slot.ghost n c (sym (ap copy_in book) ∙ at)
  cell_keeps (deed.stays u p q changed has own acts at d) = absurd (acts_never u p q changed has acts)
  cell_keeps (deed.goes u p q changed j has own acts at n d) = absurd (acts_never u p q changed has acts)
  cell_keeps (deed.holds c p n is has own may lt d) = absurd (come (Call c) n)
  cell_keeps (deed.passes c p n is has at d) = absurd (come (Call c) n)
  cell_keeps (deed.lands p bs n own has may d) = absurd (come (Hand p bs) n)
  cell_keeps (deed.reaped q n has own may d) = steps _ s.cell d (dropped s.cell.slot.ghost (q.beat + 1))
  cell_keeps (deed.looks n q w known h at has own is small d) = steps _ _ d same

  keeps_copies : Moves f e k s i t sent → Kept
  keeps_copies (at_a_cell tree of low m is) = cell_keeps (cell_deeds m)
  keeps_copies (at_a_base high m is) = λ c at. sym (ap (λ (x : AtCell). copy_in x.slot.ghost) is) ∙ at

-- ---- a list of events

module _ (f : Frame) (frame : IsFrame f) (u : World) (between : IsBetweenRounds f u) (e home : ℕ) (r : RealView)
    (there : real_in ((entity_flow e u).slot home) ≡ Some r) (told : Bool) (small : told ≡ true → may_rise r.beat ≡ true) where
  abbrev settled : IsSettled f e home r u
  settled = between.settled e home r there

  record HasLeft (w : World) : Type 0 where
    calm : IsCalm f e home r u told w
    left : (k : ℕ) → Copies (copy_at e u k) (copy_at e w k)

  left_happens : EachKeeps HasLeft
  left_happens w v o h =
      let next : World = happens node_steps w v in
      let g : Goes (MovesTo f e) (entity_flow e w) (entity_flow e next) = event_moves f w v o h.calm.frame e in
      record {
        calm = calm_keeps f frame u between e home r there told small w v o h.calm;
        left =
            slots_kept (λ k s. Copies (copy_at e u k) (book_entry s).1) g h.left (λ c is. h.left g.k c
            (keeps_copies f e home r told g.k ((entity_flow e w).slot g.k) (comes g.input) ((entity_flow e next).slot g.k) g.moves.sent
            (λ m at. (came (λ a k m. IsCalmTo told home r k m) g m at h.calm.mail).1) (h.calm.nodes g.k).survey
            (λ q at x. held_none q ((h.calm.nodes g.k).real q at).1 x) g.moves.moves c is));
      }
    where
      held_none : (q : RealView) → IsSame r q → (x : ℕ) → (order_or (table.get q.orders x)).held ≡ []
      held_none q is x = ap (λ (y : RealView). (order_or (table.get y.orders x)).held) (sym is.1) ∙ settled.none_held x

  copies_lead : (w v : World) (es : List Event) → IsCalm f e home r u told w → ((k : ℕ) → book_entry ((entity_flow e w).slot k)
      ≡ book_entry ((entity_flow e u).slot k)) → LeadsTo node_has_work node_steps w es v → (k : ℕ) → Copies (copy_at e u k) (copy_at e v k)
  copies_lead w v es calm books run =
      (runs_keep HasLeft left_happens w v es (record {
        calm = calm;
        left = λ k c is. sym (ap (λ p. p.1) (books k)) ∙ is;
      }) run).left

-- ---- the last phases

module _ (f : Frame) (u : World) (between : IsBetweenRounds f u) where
  pub reaps_copied : (es : List ℕ) → AreReapable u es → (vs : List Event) (v : World) →
      LeadsTo node_has_work node_steps (reaps_loaded u es) vs v → (e : ℕ) → holders u e ≡ 1 → (k : ℕ) (c : GhostCopy) →
      copy_at e v k ≡ Some c → copy_at e u k ≡ Some c
  reaps_copied es may vs v run e one =
      let h = quiet_home f u between e one in
      let turn : NodeView → NodeView = each reap_ordered_at es in
      copies_lead f between.frame u between e h.node h.real h.here (reaping.is_told e es)
      (reaping.small f u between es may e h.node h.real h.here) (reaps_loaded u es) v vs
      (reaping.calm f u between es may e h.node h.real h.here)
      (λ k. ap (λ w. book_entry ((entity_flow e w).slot k)) (reaping.loaded_is f u between es may)
      ∙ books_turned e turn (reaps_cell e es) u k)
      run

  pub looks_copied : (vs : List Event) (v : World) → LeadsTo node_has_work node_steps (look_loaded u) vs v → (e : ℕ) → holders u e ≡ 1 →
      (k : ℕ) (c : GhostCopy) → copy_at e v k ≡ Some c → copy_at e u k ≡ Some c
  looks_copied vs v run e one =
      let h = quiet_home f u between e one in
      copies_lead f between.frame u between e h.node h.real h.here false (looking.small f u between h.real) (look_loaded u) v vs
      (looking.calm f u between e h.node h.real h.here)
      (λ k. books_turned e (ordered_at looking.tick) (look_cell e looking.tick) u k) run
