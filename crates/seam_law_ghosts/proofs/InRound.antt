-- In a round no message to a cell is stray.
use Rattle.seam_law_ghosts.proofs.Prelude.{Option}
use Rattle.seam_law_ghosts.proofs.Prelude.{◌≡◌, ℕ, ◌<◌, ◌≤◌, ◌⊎◌, false, List, ◌∷◌, None, Some, refl, sym, ap, ◌∙◌, subst, inl, inr}
use Rattle.seam_law_ghosts.proofs.Prelude.{slice_get, AllByRecursion, Division, link, Event, Batch, RealView, Msg, Hand, Tick, limit}
use Rattle.seam_law_ghosts.proofs.Prelude.{cell_count, about, is_stray, CellView, slot_of, NodeView, World, Cell, loaded, letters_of}
use Rattle.seam_law_ghosts.proofs.Prelude.{slot_at, TokenPlace, In, On, Frame, IsTreeOf, here_at, mine, has_of, has_none, entity_flow}
use Rattle.seam_law_ghosts.proofs.Prelude.{RealFits, IsFitHand, real_burden, real_in, real_of, IsOne, reaped_by, RunsTo, real_at, IsSettled}
use Rattle.seam_law_ghosts.proofs.Prelude.{framed, calls_of, next_from, MayBegin, sole_here, replays_none, no_mail, are_calls, frame_loaded}
use Rattle.seam_law_ghosts.proofs.Prelude.{settled_loaded, one_loaded, spared_loaded, kept_after, Somewhere, Nowhere, IsTickTo, IsUnknown}
use Rattle.seam_law_ghosts.proofs.Prelude.{unknown_leads, unknown_loaded, nobody}
use Rattle.seam_law_calls.proofs.Easing.{came_small}
use Rattle.seam_law_calls.proofs.CellRuns.{finds}
use Rattle.seam_law_ghosts.proofs.Sending.{FitsNode}
use Rattle.seam_law_ghosts.proofs.Lasting.{IsFair, fair_leads}
use Rattle.seam_law_ghosts.proofs.Strays.{mine_is, seen_first, feeds, kind_fits}
use Rattle.seam_node_steps.specs.Prelude.{Boundaries}

-- the first letter carries the one real, so no node has it
free_by : (e : ℕ) (w : World) (p : TokenPlace) (r q : RealView) (bs : Option Boundaries) (a k : ℕ) (ms : List Msg) → IsOne e w p r →
    (entity_flow e w).mail a k ≡ Hand q bs ∷ ms → (j : ℕ) → real_at e w j ≡ None
free_by e w (On x y) r q bs a k ms one at j = one.slots j
free_by e w (In x) r q bs a k ms one at j =
    let some = sym (ap (letters_of real_of) at) ∙ one.mail a k in
    absurd (let z = some in cc)

-- nothing but ticks comes
no_tick : (e k : ℕ) (m : Msg) → about m ≡ Some e → IsTickTo k m → ⊥
no_tick e k Tick h t = cc
no_tick e k _ h t = t

pub unknown_gets_none : (f : Frame) (e : ℕ) (w : World) → IsUnknown f e w → (a k : ℕ) (m : Msg) (ms : List Msg) →
    link w.rows a k ≡ m ∷ ms → about m ≡ Some e → ⊥
unknown_gets_none f e w h a k m ms at is =
    no_tick e k m is (subst (AllByRecursion (IsTickTo k)) (seen_first e w a k m ms at is) (h.letters a k)).0

module _ (f : Frame) (w : World) (b : Batch) (begin : MayBegin f w b) (v : World) (es : List Event) (run : RunsTo (loaded w b) es v) where
  abbrev g : Frame
  g = framed f b

  module _ (e home : ℕ) (r : RealView) (here : real_at e (loaded w b) home ≡ Some r) where
    abbrev settled : IsSettled g e home r (loaded w b)
    settled = settled_loaded f w b begin e home r here

    abbrev start : RealView
    start = (one_loaded f w b begin e home r here).real

    start_is : r ≡ start
    start_is =
        let one = one_loaded f w b begin e home r here in
        (sole_here real_in real_of (entity_flow e (loaded w b)) one.place one.real r home one.one here).1

    start_low : start.public ≤ start.version
    start_low = subst (λ (x : RealView). x.public ≤ x.version) start_is settled.public

    abbrev Fair : World → Type 0
    Fair x = IsFair g (frame_loaded f w b begin) e r.ty settled.type start start_low x

    fair : Fair v
    fair =
        fair_leads g (frame_loaded f w b begin) e r.ty settled.type start start_low (loaded w b) v es (record {
          one = record { has = one_loaded f w b begin e home r here; replays = replays_none g start };
          spared = spared_loaded f w b begin e home r here;
          letters = λ a k. subst (AllByRecursion (FitsNode g k)) (sym (no_mail f w b begin e a k)) tt;
        }) run

    module _ (a k : ℕ) (s : NodeView) (node : slice_get v.nodes k ≡ Some s) (low : k < cell_count) (tree : Division)
        (of : IsTreeOf g tree) (m : Msg) (ms : List Msg) (at : link v.rows a k ≡ m ∷ ms) (is : about m ≡ Some e) where
      seen : (entity_flow e v).mail a k ≡ m ∷ letters_of (mine e) ms
      seen = seen_first e v a k m ms at is

      hand_fits : (q : RealView) (bs : Option Boundaries) → m ≡ Hand q bs → (real_at e v k ≡ None) × RealFits g e r.ty k q ×
          (real_burden q < limit)
      hand_fits q bs same =
          let has = fair.one.has in
          let there = seen ∙ ap (λ x. x ∷ letters_of (mine e) ms) same in (
            free_by e v has.place has.real q bs a k (letters_of (mine e) ms) has.one there k,
            (subst (AllByRecursion (IsFitHand g e r.ty k)) there (has.fits.hands a k)).0 q bs refl,
            came_small g e v (record { node = k; from = Some a }) (feeds v a k s m ms node at) has.fits.frame has.fits.room q bs
                (mine_is e m is ∙ ap Some same),
          )

      pub present_free : is_stray (here_at g k) tree ((entity_flow e v).slot k).cell.slot m ≡ false
      present_free =
          kind_fits g (frame_loaded f w b begin) e r.ty k settled.type low tree of ((entity_flow e v).slot k) m
          (subst (AllByRecursion (FitsNode g k)) seen (fair.letters a k)).0
          (subst (AllByRecursion (λ x. reaped_by x ≡ None)) seen (fair.spared.letters a k)).0
          (λ c same.
          finds g (frame_loaded f w b begin) e r.ty settled.type (λ s. next_from s r) (calls_of b e)
          (are_calls f w b begin e home r here) v (kept_after f w b begin e home r here v es run) a k c
          (letters_of (mine e) ms) (seen ∙ ap (λ x. x ∷ letters_of (mine e) ms) same))
          hand_fits

  pub free_by_place : (a k : ℕ) (c : CellView) (m : Msg) (ms : List Msg) (e : ℕ) → slice_get v.nodes k ≡ Some (Cell c) →
      link v.rows a k ≡ m ∷ ms → about m ≡ Some e → k < cell_count → IsTreeOf g c.tree →
      Somewhere e (loaded w b) ⊎ Nowhere e (loaded w b) → is_stray (here_at g k) c.tree ((entity_flow e v).slot k).cell.slot m ≡ false
  free_by_place a k c m ms e node at is low of (inl p) = present_free e p.0 p.1 p.2 a k (Cell c) node low c.tree of m ms at is
  free_by_place a k c m ms e node at is low of (inr n) =
      absurd (unknown_gets_none g e v (unknown_leads g e (loaded w b) v es (unknown_loaded f w b begin e
      (nobody f w b begin e n)) run) a k m ms at is)

-- what is said of a cell by its entity's flow, said of the cell
pub of_cell : (g : Frame) (v : World) (k : ℕ) (c : CellView) (e : ℕ) (m : Msg) → slice_get v.nodes k ≡ Some (Cell c) →
    c.here ≡ here_at g k → is_stray (here_at g k) c.tree ((entity_flow e v).slot k).cell.slot m ≡ false →
    is_stray c.here c.tree (slot_of c e) m ≡ false
of_cell g v k c e m node here h =
    ap (λ x. is_stray x c.tree (slot_of c e) m) here
    ∙ (sym (ap (λ o. is_stray (here_at g k) c.tree (slot_at (has_of e) has_none o).cell.slot m) node) ∙ h)
