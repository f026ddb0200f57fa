-- A real that is on no survey list needs no settling, nor does one on its way: each was settled where it is.
use Rattle.seam_law_ghosts.proofs.Prelude.{◌≡◌, ℕ, zero, suc, ◌<◌, ◌≤◌, length, List, [], Option, Some, refl, sym, ap, ◌∙◌, subst, arith}
use Rattle.seam_law_ghosts.proofs.Prelude.{inl, inr, AllByRecursion, cases_eq, Division, Distances, Place, Settings, happens, Occurs, Event}
use Rattle.seam_law_ghosts.proofs.Prelude.{Batch, RealView, Msg, Hand, Reap, World, node_steps, loaded, comes, letter_in, letters_of}
use Rattle.seam_law_ghosts.proofs.Prelude.{SendsOne, Handles, still, turns, lands, leaves, relays, Frame, HasOneTree, IsFrame, Has, mine}
use Rattle.seam_law_ghosts.proofs.Prelude.{entity_flow, Replays, real_in, real_of, IsSpared, HasOne, RunsTo, real_at, framed, MayBegin}
use Rattle.seam_law_ghosts.proofs.Prelude.{distances_of, place_of, IsRestful, IsRestfulHand, AreRestful, settled, settled_again, slots_kept}
use Rattle.seam_law_ghosts.proofs.Prelude.{letters_kept, came, goes, came_hand, hands_all, one_keeps, no_mail, frame_loaded, settled_loaded}
use Rattle.seam_law_ghosts.proofs.Prelude.{one_loaded, spared_loaded}
use Rattle.seam_law_ghosts.proofs.Begun.{listed}
use Rattle.seam_law_ghosts.proofs.Placing.{IsAlike, Settles, by_survey, by_call, PlacesBy}
use Rattle.seam_law_ghosts.proofs.PlaceMoves.{by_first_tree}
use Rattle.seam_node_steps.specs.Prelude.{Boundaries}

-- ---- one real

module _ (g : Settings) (tree : Division) where
  abbrev d : Distances
  d = distances_of g

  -- one that settled needs no settling
  settled_rests : (k j : ℕ) (r q : RealView) → place_of j q ≡ settled d tree (place_of k r) q.state.pos → IsRestful g tree j q
  settled_rests k j r q is =
      ap (λ p. settled d tree p q.state.pos) is ∙ (settled_again d tree (place_of k r) q.state.pos ∙ sym is)

  -- nor does one that is like it
  alike_rests : (k : ℕ) (r q : RealView) → IsAlike r q → IsRestful g tree k r → IsRestful g tree k q
  alike_rests k r q alike rests =
      let place : place_of k q ≡ place_of k r = ap (λ s. let now : Place = record { home = k; ghosts = s } in now) alike.haunts in
      ap (λ p. settled d tree p q.state.pos) place
      ∙ (ap (λ s. settled d tree (place_of k r) s.pos) alike.state ∙ (rests ∙ sym place))

-- what was listed is listed, so what is not listed was not
none_before : (n m : ℕ) → (1 ≤ n → 1 ≤ m) → m ≡ 0 → n ≡ 0
none_before zero m stays none = refl
none_before (suc n) m stays none = let some = stays (omega arith) in absurd (omega (arith, some, none))

-- ---- a step of cell k, by its tree

module _ (f : Frame) (tree : Division) (k : ℕ) (s : Has) (i : Option Msg) (t : Has) (out : ℕ → List Msg) where
  abbrev Rests : ℕ → RealView → Type 0
  Rests j r = IsRestful f.settings tree j r

  abbrev Does_it : Type 0
  Does_it = Handles real_in real_of (Replays f) s i t out

  settles_rests : (j : ℕ) (r q : RealView) → Settles f tree k j r q → Rests j q
  settles_rests j r q (by_survey done state is) = settled_rests f.settings tree k j r q is
  settles_rests j r q (by_call c done state is) = settled_rests f.settings tree k j r q is

  same : (q p : RealView) (x : Option RealView) → x ≡ Some q → x ≡ Some p → Rests k q → Rests k p
  same q p x a b rests = let one : q ≡ p = let z = sym a ∙ b in cc in subst (Rests k) one rests

  module _ (before : (r : RealView) → real_in s ≡ Some r → s.cell.survey ≡ 0 → Rests k r)
      (hand : (r : RealView) (bs : Option Boundaries) → i ≡ Some (Hand r bs) → Rests k r) where
    pub slot_rests : (m : Does_it) → PlacesBy f tree k s i t out m → (p : RealView) → real_in t ≡ Some p → t.cell.survey ≡ 0 → Rests k p
    slot_rests (still a b c) stays p at none =
        let was = sym a ∙ at in before p was (none_before s.cell.survey t.cell.survey (stays p was) none)
    slot_rests (turns r q a b c y z) (inl (alike, stays)) p at none =
        same q p (real_in t) b at
        (alike_rests f.settings tree k r q alike (before r a (none_before s.cell.survey t.cell.survey stays none)))
    slot_rests (turns r q a b c y z) (inr settles) p at none = same q p (real_in t) b at (settles_rests k r q settles)
    slot_rests (lands r q a b c y) is p at none = same q p (real_in t) b at
        (subst (Rests k) (sym is) (hand r (came_hand i r a).0 (came_hand i r a).1))
    slot_rests (leaves r q to a b c y z) settles p at none = absurd (let x = sym b ∙ at in cc)
    slot_rests (relays r q to a b c z) never p at none = absurd never

  nothing : (j : ℕ) → letters_of real_of (out j) ≡ [] → AllByRecursion (IsRestfulHand f.settings tree j) (out j)
  nothing j is = hands_all (Rests j) (out j) (subst (AllByRecursion (Rests j)) (sym is) tt)

  one_sent : (q : RealView) (to j : ℕ) → SendsOne real_of out to q → Rests to q → AllByRecursion (IsRestfulHand f.settings tree j) (out j)
  one_sent q to j sends rests = elim (cases_eq j to) [
    | inl is ↦
        subst (λ x. AllByRecursion (IsRestfulHand f.settings tree x) (out x)) (sym is)
        (hands_all (Rests to) (out to) (subst (AllByRecursion (Rests to)) (sym sends.here) (rests, tt)))
    | inr n ↦ nothing j (sends.others j n)
  ]

  pub out_rests : (m : Does_it) → PlacesBy f tree k s i t out m → (j : ℕ) → AllByRecursion (IsRestfulHand f.settings tree j) (out j)
  out_rests (still a b c) stays j = nothing j (c j)
  out_rests (turns r q a b c y z) places j = nothing j (z j)
  out_rests (lands r q a b c y) is j = nothing j (y j)
  out_rests (leaves r q to a b c y z) settles j = one_sent q to j z (settles_rests to r q settles)
  out_rests (relays r q to a b c z) never j = absurd never

-- ---- every list of events, where there is one tree

module _ (f : Frame) (alone : HasOneTree f) (frame : IsFrame f) (e ty : ℕ) (known : ty < length f.defs) where
  restful_happens : (w : World) (v : Event) (o : Occurs w v) (has : HasOne f e ty w)
      (calm : letter_in (mine e) o.input ≡ Some (Reap e) → ⊥) → AreRestful f e w → AreRestful f e (happens node_steps w v)
  restful_happens w v o has calm h =
      let x = goes f frame e ty known w v o has calm in
      let s = (entity_flow e w).slot x.k in
      let t = (entity_flow e (happens node_steps w v)).slot x.k in
      let what = by_first_tree f frame e ty known w v o has calm alone in
      record {
        cells =
            slots_kept (λ k s. (p : RealView) → real_in s ≡ Some p → s.cell.survey ≡ 0 → IsRestful f.settings f.tree k p) x h.cells
            (slot_rests f f.tree x.k s (comes x.input) t x.out (h.cells x.k)
            (λ r bs is. (came (λ a k m. IsRestfulHand f.settings f.tree k m) x (Hand r bs) is h.hands).1 r bs refl) what.0 what.1);
        hands =
            letters_kept (λ a k m. IsRestfulHand f.settings f.tree k m) x h.hands
            (out_rests f f.tree x.k s (comes x.input) t x.out what.0 what.1);
      }

  pub restful_leads : (w v : World) (es : List Event) → HasOne f e ty w → IsSpared e w → AreRestful f e w → RunsTo w es v → AreRestful f e v
  restful_leads w v es has spared start run =
      one_keeps f frame e ty known (AreRestful f e) (λ x a o one free calm h. restful_happens x a o one calm h) w v es has spared run start

-- ---- a loaded world

module _ (f : Frame) (w : World) (b : Batch) (begin : MayBegin f w b) (v : World) (es : List Event) (run : RunsTo (loaded w b) es v) where
  -- each real is listed, and none is on its way
  first : (e : ℕ) → AreRestful (framed f b) e (loaded w b)
  first e = record {
    cells = λ k r at none. let some = listed e w b k r at in absurd (omega (arith, some, none));
    hands = λ a k. subst (AllByRecursion (IsRestfulHand f.settings b.tree k)) (sym (no_mail f w b begin e a k)) tt;
  }

  pub restful_loaded : (e home : ℕ) (r : RealView) → real_at e (loaded w b) home ≡ Some r → AreRestful (framed f b) e v
  restful_loaded e home r here =
      restful_leads (framed f b) refl (frame_loaded f w b begin) e r.ty (settled_loaded f w b begin e home r here).type (loaded w b) v es
      (one_loaded f w b begin e home r here) (spared_loaded f w b begin e home r here) (first e) run
