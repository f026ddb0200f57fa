-- Over every list of events the newest entry of each cell is what the real wants.
use Rattle.seam_law_ghosts.proofs.Prelude.{◌≡◌, ℕ, ◌<◌, ◌≤◌, true, ◌&&◌, List, [], length, Option, None, Some, sym, ◌∙◌, subst, arith}
use Rattle.seam_law_ghosts.proofs.Prelude.{AllByRecursion, Division, happens, Event, Occurs, GhostCopy, RealView, Msg, Hand, GhostSet}
use Rattle.seam_law_ghosts.proofs.Prelude.{GhostDrop, Reap, is_small, fits_copy, is_stray, World, node_steps, limit, Goes, comes, letter_in}
use Rattle.seam_law_ghosts.proofs.Prelude.{AllBring, TokenPlace, In, Frame, here_at, Has, mine, entity_flow, MovesTo, real_in, real_of}
use Rattle.seam_law_ghosts.proofs.Prelude.{IsOne, IsSpared, IsFrame, HasOne, real_burden, RunsTo, real_at, Entry, brings, book_entry}
use Rattle.seam_law_ghosts.proofs.Prelude.{IsTable, IsTrue, IsHushed, present, copy_at, NewestAreWanted, AreSettled, sole_here, came}
use Rattle.seam_law_ghosts.proofs.Prelude.{not_both, all_two, goes, room, calm_of, replays_none, public_low, RunsKeep, runs_keep}
use Rattle.seam_law_ghosts.proofs.Sending.{FitsNode}
use Rattle.seam_law_ghosts.proofs.Lasting.{IsFair, fair_happens}
use Rattle.seam_law_ghosts.proofs.Steps.{ghost_moves}
use Rattle.seam_law_ghosts.proofs.Telling.{true_first, first_place}
use Rattle.seam_law_ghosts.proofs.Hushing.{IsQuelled, quelled_happens, hushed_where}
use Rattle.seam_law_ghosts.proofs.Books.{risen_leads, copies_rise}
use Rattle.seam_law_ghosts.proofs.Moving.{After, here, gone, after_move}
use Rattle.seam_law_ghosts.proofs.Still.{same_one, came_with, told_still, table_still}
use Rattle.seam_node_steps.specs.Prelude.{Boundaries}

-- what fits is not stray
pub news_fit : (f : Frame) (k : ℕ) (s : Has) (m : Msg) (x : Entry) → FitsNode f k m → brings m ≡ Some x → real_of m ≡ None →
    (tree : Division) → is_stray (here_at f k) tree s.cell.slot m ≡ true → ⊥
news_fit f k s (GhostSet y n c) x fits is none tree stray =
    not_both (is_small n && (is_small c.version && fits_copy (here_at f k) c)) (all_two _ _ fits.0 (all_two _ _ fits.1 fits.2)) stray
news_fit f k s (GhostDrop y n) x fits is none tree stray = not_both (is_small n) fits stray
news_fit f k s _ x fits is none tree stray = cc

module _ (f : Frame) (frame : IsFrame f) (e ty : ℕ) (known : ty < length f.defs) (start : RealView) (low : start.public ≤ start.version)
    (first : ℕ → GhostCopy) where
  pub record IsInformed (w : World) : Type 0 where
    pub quelled : IsQuelled f frame e ty known start first w
    pub fair : IsFair f frame e ty known start low w
    pub told : NewestAreWanted f e w quelled.is.one.has.place quelled.is.one.has.real

  placed : (w : World) (p q : TokenPlace) (r x : RealView) → IsOne e w p r → IsOne e w q x → NewestAreWanted f e w p r →
      NewestAreWanted f e w q x
  placed w p q r x one two told =
      let same = same_one e w p q r x one two in
      subst (NewestAreWanted f e w q) same.1 (subst (λ y. NewestAreWanted f e w y r) same.0 told)

  -- ---- an event

  module _ (w : World) (v : Event) (o : Occurs w v) (x : IsInformed w) where
    abbrev next : World
    next = happens node_steps w v

    abbrev has : HasOne f e ty w
    has = x.quelled.is.one.has

    calm : letter_in (mine e) o.input ≡ Some (Reap e) → ⊥
    calm = calm_of f e w v o has.fits.frame x.quelled.spared

    abbrev Came : Option Msg → Type 0
    Came i = ((r : RealView) (bs : Option Boundaries) → i ≡ Some (Hand r bs) → real_burden r < limit) × (i ≡ Some (Reap e) → ⊥)

    abbrev g : Goes (λ k s i t out. MovesTo f e k s i t out × Came i) (entity_flow e w) (entity_flow e next)
    g = goes f frame e ty known w v o has calm

    more : IsQuelled f frame e ty known start first next
    more = quelled_happens f frame e ty known start first w v o x.quelled

    step : After f e w next g g.moves.0.sent g.moves.0.items
    step =
        after_move f e w next g g.moves.0.sent g.moves.0.items has.place has.real has.one x.told
        (λ m y is cell brought none.
        news_fit f g.k ((entity_flow e w).slot g.k) m y (came (λ a k m. FitsNode f k m) g m is x.fair.letters).1 brought none)
        (λ n c q is at.
        came_with (λ p. p.0 ≤ (book_entry ((entity_flow e w).slot g.k)).0) (entity_flow e w).mail g.k g.input g.rest g.head
        (hushed_where f frame e ty known start first w x.quelled g.k q at) (GhostSet e n c) is)
        (ghost_moves f e ty g.k ((entity_flow e w).slot g.k) (comes g.input) ((entity_flow e next).slot g.k) g.moves.0.sent
        (room f frame e ty known w v o has calm) (has.fits.reals g.k) g.moves.0.moves)

    told_by : After f e w next g g.moves.0.sent g.moves.0.items → NewestAreWanted f e next more.is.one.has.place more.is.one.has.real
    told_by (here p q is told) = placed next p more.is.one.has.place q more.is.one.has.real is more.is.one.has.one told
    told_by (gone is real none) = absurd (g.moves.1.1 is)

    informed_happens : IsInformed next
    informed_happens = record {
      quelled = more;
      fair = fair_happens f frame e ty known start low w v o x.fair;
      told = told_by step;
    }

  pub informed_leads : RunsKeep IsInformed
  informed_leads = runs_keep IsInformed informed_happens

-- ---- it begins where nothing is on its way

module _ (f : Frame) (frame : IsFrame f) (e ty : ℕ) (known : ty < length f.defs) (w : World) (h : HasOne f e ty w) (spared : IsSpared e w)
    (low : h.real.public ≤ h.real.version) (still : (x y : ℕ) → (entity_flow e w).mail x y ≡ []) (home : ℕ)
    (at_home : real_at e w home ≡ Some h.real) (copies : AreSettled f e home h.real w) where
  abbrev pub table : ℕ → GhostCopy
  table b = present f h.real

  pub told_table : IsTable e w h.real table
  told_table = table_still f e w still home h.real h.fits.frame copies

  abbrev pub true_start : IsTrue f e ty h.real table w
  true_start = true_first f e ty w h table low told_table

  abbrev Informed : World → Type 0
  Informed = IsInformed f frame e ty known h.real low table

  pub informed_start : Informed w
  informed_start = record {
    quelled = record {
      is = true_start;
      spared = spared;
      hushed = subst (IsHushed e w) (sym place_is) (λ a. subst (AllBring brings (λ p. p.0 ≤ (book_entry ((entity_flow e w).slot home)).0))
          (sym (still a home)) tt);
    };
    fair = record {
      one = record { has = h; replays = replays_none f h.real };
      spared = spared;
      letters = λ a k. subst (AllByRecursion (FitsNode f k)) (sym (still a k)) tt;
    };
    told =
        placed f frame e ty known h.real low table w (In home) true_start.one.has.place h.real true_start.one.has.real one
        true_start.one.has.one (told_still f e w still home h.real copies);
  }
    where
      home_is : h.place ≡ In home
      home_is = (sole_here real_in real_of (entity_flow e w) h.place h.real h.real home h.one at_home).0

      place_is : true_start.one.has.place ≡ In home
      place_is = first_place f e ty w h table low told_table ∙ home_is

      one : IsOne e w (In home) h.real
      one = subst (λ p. IsOne e w p h.real) home_is h.one

  pub informed_from : (v : World) (es : List Event) → RunsTo w es v → Informed v
  informed_from v es run = informed_leads f frame e ty known h.real low table w v es informed_start run

  -- wherever the real is then
  pub told_of : (v : World) (es : List Event) → RunsTo w es v → (p : TokenPlace) (q : RealView) → IsOne e v p q → NewestAreWanted f e v p q
  told_of v es run p q is =
      let x = informed_from v es run in
      placed f frame e ty known h.real low table v x.quelled.is.one.has.place p x.quelled.is.one.has.real q x.quelled.is.one.has.one is
      x.told

  -- what comes to its cell has no newer beat than the book there
  pub hushed_of : (v : World) (es : List Event) → RunsTo w es v → (k : ℕ) (q : RealView) → real_at e v k ≡ Some q → IsHushed e v (In k)
  hushed_of v es run = hushed_where f frame e ty known h.real table v (informed_from v es run).quelled

  -- a copy in a book is of no older version than one that was there before
  pub later_of : (v u : World) (es gs : List Event) → RunsTo w es v → RunsTo v gs u →
      (k : ℕ) (c d : GhostCopy) → copy_at e v k ≡ Some c → copy_at e u k ≡ Some d → c.version ≤ d.version
  later_of v u es gs to run k c d was now =
      let x = (informed_from v es to).quelled in
      let has = x.is.one.has in
      let up = public_low f h.real has.real low x.is.one.replays in
      copies_rise f frame e ty known has.real x.is.table v u
      (risen_leads f frame e ty known has.real x.is.table v v u gs
      (record { is = true_first f e ty v has x.is.table up x.is.told; spared = x.spared; books = λ j. omega arith }) run)
      x.is.told k c d was now
