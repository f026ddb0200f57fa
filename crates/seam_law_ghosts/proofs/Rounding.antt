-- A loaded world, and a round's calls: each cell is told what the real wants, and has it where the world is quiet again.
use Rattle.seam_law_ghosts.proofs.Prelude.{◌≡◌, ℕ, ◌<◌, ◌≤◌, ◌⊎◌, List, [], None, Some, sym, ap, ◌∙◌, subst, arith, inl, inr, happens}
use Rattle.seam_law_ghosts.proofs.Prelude.{IsQuiet, Event, Batch, GhostCopy, RealView, Msg, Hand, Tick, cell_count, holders, World}
use Rattle.seam_law_ghosts.proofs.Prelude.{node_steps, node_has_work, loaded, comes, letters_of, TokenPlace, In, Frame, entity_flow}
use Rattle.seam_law_ghosts.proofs.Prelude.{real_in, real_of, IsOne, HasOne, RunsTo, real_at, IsSettled, framed, MayBegin, Entry, brings}
use Rattle.seam_law_ghosts.proofs.Prelude.{IsTrue, IsHushed, present, copy_at, NewestAreWanted, IsForgotten, AreSettled}
use Rattle.seam_law_ghosts.proofs.Prelude.{AreCopiesBetweenRounds, came, sole_here, event_moves, gone_leads, in_frame, no_mail, holds_kept}
use Rattle.seam_law_ghosts.proofs.Prelude.{one_holder, frame_loaded, settled_loaded, one_loaded, spared_loaded, one_after, Somewhere}
use Rattle.seam_law_ghosts.proofs.Prelude.{Nowhere, search_real, frame_leads, IsTickTo, IsUnknown, unknown_loaded, nobody, EachKeeps}
use Rattle.seam_law_ghosts.proofs.Prelude.{runs_keep, unknown_happens}
use Rattle.seam_law_ghosts.proofs.Steps.{ghost_moves}
use Rattle.seam_law_ghosts.proofs.Moving.{still_forgotten}
use Rattle.seam_law_ghosts.proofs.Still.{quiet_mail, nowhere_counts, forgotten_still, none_still, settled_still}
use Rattle.seam_law_ghosts.proofs.Running.{IsInformed, informed_from, told_of, hushed_of, later_of}
use Rattle.seam_law_ghosts.proofs.Loading.{books_loaded, copies_loaded, home_loaded}

-- ---- an entity that is nowhere: nothing comes to its books

tick_brings : (k : ℕ) (m : Msg) (x : Entry) → IsTickTo k m → brings m ≡ Some x → ⊥
tick_brings k Tick x t is = cc
tick_brings k _ x t is = t

module _ (f : Frame) (e : ℕ) where
  record IsLost (w : World) : Type 0 where
    unknown : IsUnknown f e w
    forgotten : IsForgotten e w

  lost_happens : EachKeeps IsLost
  lost_happens w v o x =
      let next = happens node_steps w v in
      let g = event_moves f w v o x.unknown.frame e in
      let ticks : (m : Msg) → comes g.input ≡ Some m → IsTickTo g.k m =
      λ m is. (came (λ a k m. IsTickTo k m) g m is x.unknown.letters).1 in
      let free = (x.unknown.slots g.k).real in
      record {
        unknown = unknown_happens f e w v o x.unknown;
        forgotten =
            still_forgotten f e w next g g.moves.sent g.moves.items free (λ r bs is. ticks (Hand r bs) is) x.forgotten
            (λ m y is cell brought none tree stray. tick_brings g.k m y (ticks m is) brought)
            (ghost_moves f e 0 g.k ((entity_flow e w).slot g.k) (comes g.input) ((entity_flow e next).slot g.k) g.moves.sent
            (λ r bs is. absurd (ticks (Hand r bs) is)) (λ r at. absurd (let z = sym free ∙ at in cc)) g.moves.moves);
      }

  pub lost_leads : (w v : World) (es : List Event) → IsUnknown f e w → IsForgotten e w → RunsTo w es v → IsForgotten e v
  lost_leads w v es unknown forgotten run =
      (runs_keep IsLost lost_happens w v es (record { unknown = unknown; forgotten = forgotten }) run).forgotten

-- ---- a loaded world

module _ (f : Frame) (w : World) (b : Batch) (begin : MayBegin f w b) (copies : AreCopiesBetweenRounds f w) where
  none_before : (e : ℕ) → holders (loaded w b) e ≡ 0 → Somewhere e w ⊎ Nowhere e w → holders w e ≡ 0
  none_before e zero (inr none) = nowhere_counts f w begin.between e none
  none_before e zero (inl p) =
      let one = holds_kept f w b begin e
      (one_holder f w e p.0 p.1 (begin.between.settled e p.0 p.1 p.2) (quiet_mail f w begin.between.nodes begin.between.quiet e)) in
      absurd (omega (arith, one, zero))

  none_loaded : (e : ℕ) → holders (loaded w b) e ≡ 0 → (k : ℕ) → k < cell_count → copy_at e (loaded w b) k ≡ None
  none_loaded e zero k low =
      (books_loaded e w b k).copy ∙ copies.none e (none_before e zero (search_real e w)) k low

  pub loaded_copied : AreCopiesBetweenRounds (framed f b) (loaded w b)
  loaded_copied = record { settled = copies_loaded f w b begin.fits copies; none = none_loaded }

-- ---- a round

module _ (f : Frame) (w : World) (b : Batch) (begin : MayBegin f w b)
    (copies : AreCopiesBetweenRounds f w) (v : World) (es : List Event) (run : RunsTo (loaded w b) es v) where
  abbrev g : Frame
  g = framed f b

  abbrev start : World
  start = loaded w b

  module _ (e home : ℕ) (r : RealView) (here : real_at e start home ≡ Some r) where
    abbrev settled : IsSettled g e home r start
    settled = settled_loaded f w b begin e home r here

    abbrev one : HasOne g e r.ty start
    one = one_loaded f w b begin e home r here

    pub real_is : r ≡ one.real
    real_is = (sole_here real_in real_of (entity_flow e start) one.place one.real r home one.one here).1

    pub start_low : one.real.public ≤ one.real.version
    start_low = subst (λ (x : RealView). x.public ≤ x.version) real_is settled.public

    abbrev Informed : World → Type 0
    Informed =
        IsInformed g (frame_loaded f w b begin) e r.ty settled.type one.real start_low (λ n. present g one.real)

    at_home : real_at e start home ≡ Some one.real
    at_home = here ∙ ap Some real_is

    copied : AreSettled g e home one.real start
    copied = subst (λ x. AreSettled g e home x start) real_is (copies_loaded f w b begin.fits copies e home r here)

    pub informed : Informed v
    informed =
        informed_from g (frame_loaded f w b begin) e r.ty settled.type start one (spared_loaded f w b begin e home r here)
        start_low (no_mail f w b begin e) home at_home copied v es run

    told_then : (p : TokenPlace) (q : RealView) → IsOne e v p q → NewestAreWanted g e v p q
    told_then =
        told_of g (frame_loaded f w b begin) e r.ty settled.type start one (spared_loaded f w b begin e home r here)
        start_low (no_mail f w b begin e) home at_home copied v es run

    hushed_then : (k : ℕ) (q : RealView) → real_at e v k ≡ Some q → IsHushed e v (In k)
    hushed_then =
        hushed_of g (frame_loaded f w b begin) e r.ty settled.type start one (spared_loaded f w b begin e home r here)
        start_low (no_mail f w b begin e) home at_home copied v es run

    later_then : (u : World) (gs : List Event) → RunsTo v gs u → (k : ℕ) (c d : GhostCopy) →
        copy_at e v k ≡ Some c → copy_at e u k ≡ Some d → c.version ≤ d.version
    later_then u gs more =
        later_of g (frame_loaded f w b begin) e r.ty settled.type start one (spared_loaded f w b begin e home r here)
        start_low (no_mail f w b begin e) home at_home copied v u es gs run more

    pub true_then : IsTrue g e r.ty r (λ n. present g r) v
    true_then = subst (λ x. IsTrue g e r.ty x (λ n. present g x) v) (sym real_is) informed.quelled.is

  pub told_each : (e : ℕ) → holders start e ≡ 1 → (p : TokenPlace) (q : RealView) → IsOne e v p q → NewestAreWanted g e v p q
  told_each e one = let h = home_loaded f w b begin e one in told_then e h.0 h.1 h.2

  pub hushed_each : (e : ℕ) → holders start e ≡ 1 → (k : ℕ) (q : RealView) → real_at e v k ≡ Some q → IsHushed e v (In k)
  hushed_each e one = let h = home_loaded f w b begin e one in hushed_then e h.0 h.1 h.2

  pub later_each : (u : World) (gs : List Event) → RunsTo v gs u → (e : ℕ) → holders start e ≡ 1 →
      (k : ℕ) (c d : GhostCopy) → copy_at e v k ≡ Some c → copy_at e u k ≡ Some d → c.version ≤ d.version
  later_each u gs more e one = let h = home_loaded f w b begin e one in later_then e h.0 h.1 h.2 u gs more

  -- ---- an entity that is not there

  pub lost_then : (e : ℕ) → holders start e ≡ 0 → IsForgotten e v
  lost_then e zero =
      lost_leads g e start v es (unknown_loaded f w b begin e zero)
      (forgotten_still g e start (no_mail f w b begin e) (none_loaded f w b begin copies e zero)) run

  -- ---- where it is quiet

  module _ (quiet : IsQuiet node_has_work v) where
    still : (e x y : ℕ) → (entity_flow e v).mail x y ≡ []
    still = quiet_mail g v (frame_leads g start v es (in_frame f w b begin) run) quiet

    settled_by : (e k : ℕ) (q : RealView) → real_at e v k ≡ Some q → Somewhere e start ⊎ Nowhere e start → AreSettled g e k q v
    settled_by e k q at (inl p) =
        let has = (informed e p.0 p.1 p.2).quelled.is.one.has in
        let same = sole_here real_in real_of (entity_flow e v) has.place has.real q k has.one at in
        settled_still g e v (still e) k q
        (told_then e p.0 p.1 p.2 (In k) q (subst (λ x. IsOne e v x q) same.0 (subst (IsOne e v has.place) (sym same.1) has.one)))
    settled_by e k q at (inr n) =
        let gone = gone_leads g (frame_loaded f w b begin) e start v es (in_frame f w b begin)
        (record { slots = n; mail = λ x y. ap (letters_of real_of) (no_mail f w b begin e x y) }) run in
        absurd (let z = sym (gone.slots k) ∙ at in cc)

    none_by : (e : ℕ) → holders v e ≡ 0 → (k : ℕ) → k < cell_count → Somewhere e start ⊎ Nowhere e start → copy_at e v k ≡ None
    none_by e zero k low (inl p) =
        let one = one_after f w b begin e p.0 p.1 p.2 v es run in
        absurd (omega (arith, one, zero))
    none_by e zero k low (inr n) = none_still g e v (still e) (lost_then e (nobody f w b begin e n)) k low

    pub calls_end_copied : AreCopiesBetweenRounds g v
    calls_end_copied = record {
      settled = λ e k q at. settled_by e k q at (search_real e start);
      none = λ e zero k low. none_by e zero k low (search_real e start);
    }
