-- A Reap that finds the real takes it out of the world, and an entity that no one has stays gone.
use Rattle.seam_law_calls.proofs.Prelude.{◌≡◌, ℕ, ◌+◌, Bool, true, List, Option, None, Some, refl, sym, ap, ◌∙◌, subst, arith}
use Rattle.seam_law_calls.proofs.Prelude.{AllByRecursion, Division, happens, Occurs, Event, RealView, Boundaries, Msg, Hand, Reap, limit}
use Rattle.seam_law_calls.proofs.Prelude.{may_rise, is_stray, World, node_steps, Goes, comes, letter_in, letters_of, IsSilent, carried_in}
use Rattle.seam_law_calls.proofs.Prelude.{Nobody, Handles, still, turns, lands, leaves, relays, Frame, here_at, IsInFrame, Has, AtCell}
use Rattle.seam_law_calls.proofs.Prelude.{mine, has_of, entity_flow, Acts, surveys, calls, readies, Moves, at_a_cell, at_a_base, MovesTo}
use Rattle.seam_law_calls.proofs.Prelude.{Replays, real_in, real_of, IsFrame, HasOne, real_at, came, sees_none}
use Rattle.seam_law_flow.proofs.Lives.{nobody_still, nobody_ends}
use Rattle.seam_law_calls.proofs.CellDeeds as deed
use Rattle.seam_law_calls.proofs.CellDeeds.{CellDeeds, cell_deeds, not_reaped}
use Rattle.seam_law_calls.proofs.Classify.{event_moves, event_moves_with}
use Rattle.seam_law_calls.proofs.Holds.{below_is, not_both}
use Rattle.seam_law_calls.proofs.Plain.{drops_silent}
use Rattle.seam_law_calls.proofs.Handling.{reals_unseen, handled}
use Rattle.seam_law_calls.proofs.Easing.{reaped_small}
use Rattle.seam_law_calls.proofs.OneReal.{hands_all, came_hand}
use Rattle.seam_law_calls.proofs.Keeping.{run_keeps, FramedKeep}

-- ---- nobody has it

module _ (f : Frame) (frame : IsFrame f) (e : ℕ) (w : World) (v : Event) (o : Occurs w v) (q : IsInFrame f w)
    (none : Nobody real_in real_of (entity_flow e w)) where
  moves : Goes (MovesTo f e) (entity_flow e w) (entity_flow e (happens node_steps w v))
  moves = event_moves f w v o q e

  none_comes : (r : RealView) (bs : Option Boundaries) → comes moves.input ≡ Some (Hand r bs) → ⊥
  none_comes r bs h =
      (came (λ a k m. (r : RealView) (bs : Option Boundaries) → m ≡ Hand r bs → ⊥) moves (Hand r bs) h (λ a k.
      hands_all (λ r. ⊥) ((entity_flow e w).mail a k) (subst (AllByRecursion (λ r. ⊥)) (sym (none.mail a k)) tt))).1 r bs refl

  none_here : (r : RealView) → real_at e w moves.k ≡ Some r → ⊥
  none_here r h = let no = sym (none.slots moves.k) ∙ h in cc

  gone_by : Handles real_in real_of (Replays f) ((entity_flow e w).slot moves.k) (comes moves.input)
      ((entity_flow e (happens node_steps w v)).slot moves.k) moves.out → Nobody real_in real_of (entity_flow e (happens node_steps w v))
  gone_by (still a b c) = nobody_still real_in real_of moves none a b c
  gone_by (turns r p a b c d s) = absurd (none_here r a)
  gone_by (lands r p a b c s) = let h = came_hand (comes moves.input) r a in absurd (none_comes r h.0 h.1)
  gone_by (leaves r p to a b c d s) = absurd (none_here r a)
  gone_by (relays r p to a b c s) = let h = came_hand (comes moves.input) r a in absurd (none_comes r h.0 h.1)

  pub gone_happens : Nobody real_in real_of (entity_flow e (happens node_steps w v))
  gone_happens =
      gone_by (handled f frame e 0 moves.k _ (comes moves.input) _ moves.moves.sent moves.out moves.moves.items
      (λ r bs h. absurd (none_comes r bs h)) (λ r h is. none_here r h) moves.moves.moves).0

-- after every list of events
pub gone_leads : (f : Frame) → IsFrame f → (e : ℕ) → FramedKeep f (λ x. Nobody real_in real_of (entity_flow e x))
gone_leads f frame e = run_keeps f (λ x. Nobody real_in real_of (entity_flow e x)) (gone_happens f frame e)

-- ---- a Reap finds the real

module _ (f : Frame) (e k : ℕ) (s : Has) (i : Option Msg) (t : Has) (sent : List (ℕ × Msg)) (r : RealView) (is : i ≡ Some (Reap e))
    (has : real_in s ≡ Some r) (may : may_rise r.beat ≡ true) where
  -- the real is no more, and none is sent
  record Takes : Type 0 where
    none : real_in t ≡ None
    silent : IsSilent real_of sent

  never : (i ≡ None) → Takes
  never n = let no = sym is ∙ n in absurd cc

  not_reap : (m : Msg) → i ≡ Some m → (Reap e ≡ m → ⊥) → Takes
  not_reap m n apart = absurd (apart (let same = sym is ∙ n in cc))

  acts_not : (u : AtCell) (p q : RealView) (changed : Bool) → Acts (here_at f k) e s.cell i p u q changed → Takes
  acts_not u p q changed (surveys n a b c) = never a
  acts_not u p q changed (calls c a b d g) = not_reap _ a (λ z. cc)
  acts_not u p q changed (readies o c a b d g) = never a

  takes : {tree : Division} → CellDeeds (here_at f k) tree e s.cell i t.cell sent → Takes
  takes {tree} (deed.idles a z) =
      absurd (not_both (may_rise r.beat) may
      (sym (ap (λ o. is_stray (here_at f k) tree (record { real = o; next = s.cell.slot.next; ghost = s.cell.slot.ghost }) (Reap e))
      has) ∙ not_reaped a.why e is))
  takes (deed.stays u p q changed h own acts at d) = acts_not u p q changed acts
  takes (deed.goes u p q changed j h own acts at n d) = acts_not u p q changed acts
  takes (deed.holds c p n own h mine m lt d) = not_reap _ n (λ z. cc)
  takes (deed.passes c p n own h at d) = not_reap _ n (λ z. cc)
  takes (deed.lands p bs n own h m d) = not_reap _ n (λ z. cc)
  takes (deed.reaped p n h own m d) = record {
    none = ap (λ a. a.slot.real) d.state;
    silent = subst (IsSilent real_of) (sym d.sends) (drops_silent real_of reals_unseen p);
  }
  takes (deed.looks n p x known h at q own g small d) = never h

module _ (f : Frame) (frame : IsFrame f) (e ty : ℕ) (w : World) (v : Event) (o : Occurs w v) (has : HasOne f e ty w) (r : RealView)
    (fed : letter_in (mine e) o.input ≡ Some (Reap e)) (here : real_in (has_of e o.node) ≡ Some r) where
  abbrev Found : Has → Option Msg → Type 0
  Found s i = (i ≡ Some (Reap e)) × (real_in s ≡ Some r) × (may_rise r.beat ≡ true)

  small : may_rise r.beat ≡ true
  small =
      let few = reaped_small f e w v o has.fits.frame has.fits.room r here fed in
      below_is (r.beat + 1) limit (omega (arith, few))

  finds : Goes (λ k s i t out. MovesTo f e k s i t out × Found s i) (entity_flow e w) (entity_flow e (happens node_steps w v))
  finds = event_moves_with f w v o has.fits.frame e Found (fed, here, small)

  ends : (t : Has) → Moves f e finds.k ((entity_flow e w).slot finds.k) (comes finds.input) t finds.moves.0.sent →
      Takes f e finds.k ((entity_flow e w).slot finds.k) (comes finds.input) t finds.moves.0.sent r finds.moves.1.0 finds.moves.1.1
      finds.moves.1.2
  ends t (at_a_cell tree of low m same) =
      takes f e finds.k _ (comes finds.input) t finds.moves.0.sent r finds.moves.1.0 finds.moves.1.1 finds.moves.1.2 (cell_deeds m)
  ends t (at_a_base high m same) =
      let fits = has.fits.reals finds.k r finds.moves.1.1 in
      let low = fits.home in
      let most = frame.tree.cells_to in
      absurd (omega (arith, low, most, high))

  -- nobody has it then
  pub reap_ends : Nobody real_in real_of (entity_flow e (happens node_steps w v))
  reap_ends =
      let t = ends _ finds.moves.0.moves in
      nobody_ends real_in real_of finds has.place has.real r has.one finds.moves.1.1 t.none (ap (carried_in real_of) finds.moves.1.0)
      (λ j. ap (letters_of real_of) (finds.moves.0.items j) ∙ sees_none real_of j finds.moves.0.sent t.silent)
