-- Where a loaded world is quiet again, each place is one that the rounds allow; and the last phases leave places.
use Rattle.seam_law_ghosts.proofs.Prelude.{◌≡◌, ℕ, ◌≤◌, ◌⊎◌, Bool, false, List, [], ◌∷◌, ◌++◌, Some, refl, sym, ap, ◌∙◌, subst, arith, inl}
use Rattle.seam_law_ghosts.proofs.Prelude.{inr, AllByRecursion, leaf_at, Place, IsPlaceAfter, IsQuiet, Event, Create, Batch, RealView}
use Rattle.seam_law_ghosts.proofs.Prelude.{holders, NodeView, World, node_has_work, Cell, Base, loaded, reaps_loaded, look_loaded}
use Rattle.seam_law_ghosts.proofs.Prelude.{letters_of, In, Frame, mine, times, has_of, entity_flow, real_in, real_of, HasOne, RunsTo}
use Rattle.seam_law_ghosts.proofs.Prelude.{real_at, IsBetweenRounds, framed, AreReapable, MayBegin, distances_of, place_of, first_place}
use Rattle.seam_law_ghosts.proofs.Prelude.{path_of, made_real, home_of, IsDue, IsPlaced, IsRestful, IsRightPlace, BeginsAt, HadSameReal}
use Rattle.seam_law_ghosts.proofs.Prelude.{ArePlaced, quiet_links, quiet_tasks, sole_here, counted_none, none_counts, slots, gone_leads}
use Rattle.seam_law_ghosts.proofs.Prelude.{in_frame, no_items, no_mail, one_at_home, its, frame_loaded, settled_loaded, one_loaded}
use Rattle.seam_law_ghosts.proofs.Prelude.{spared_loaded, Somewhere, Nowhere, search_real, IsCalm, calm_leads}
use Rattle.seam_law_flow.specs.Tokens as token
use Rattle.seam_law_rounds.proofs.Reaping as reaping
use Rattle.seam_law_rounds.proofs.Looking as looking
use Rattle.seam_law_ghosts.proofs.Ways.{way_ends}
use Rattle.seam_law_ghosts.proofs.Paths.{further_done}
use Rattle.seam_law_ghosts.proofs.Along.{placed_leads}
use Rattle.seam_law_ghosts.proofs.Begun.{listed, was_begins, each_begins}
use Rattle.seam_law_ghosts.proofs.Resting.{restful_loaded}

-- ---- a quiet world has no one on a survey list

survey_none : (e : ℕ) (s : NodeView) → node_has_work s ≡ false → (has_of e s).cell.survey ≡ 0
survey_none e (Cell c) h = ap (times e) (no_items c.survey _ h)
survey_none e (Base b) h = refl

pub none_due : (e : ℕ) (v : World) → IsQuiet node_has_work v → (k : ℕ) → ((entity_flow e v).slot k).cell.survey ≡ 0
none_due e v quiet k =
    slots (λ j h. h.cell.survey ≡ 0) e v (λ j s at. survey_none e s (quiet_tasks node_has_work v quiet j s at)) (λ j. refl) k

-- ---- a place at the end of its way

module _ (f : Frame) (e ty home : ℕ) (start : RealView) (v : World) (x : IsPlaced f e ty home start v) (quiet : IsQuiet node_has_work v)
    (k : ℕ) (q : RealView) (at : real_at e v k ≡ Some q) where
  abbrev has : HasOne f e ty v
  has = x.one.has

  found : (has.place ≡ In k) × (q ≡ has.real)
  found = sole_here real_in real_of (entity_flow e v) has.place has.real q k has.one at

  never : (p : token.TokenPlace) → p ≡ In k → IsDue e v p → ⊥
  never p is due =
      let none = none_due e v quiet k in
      let some : 1 ≤ ((entity_flow e v).slot k).cell.survey = subst (IsDue e v) is due in
      omega (arith, none, some)

  ended : IsPlaceAfter (distances_of f.settings) f.tree (place_of home start) start.state.pos (path_of f start x.one.replays.further)
      (place_of (home_of has.place) has.real)
  ended =
      way_ends (distances_of f.settings) f.tree (place_of home start) start.state.pos (path_of f start x.one.replays.further)
      (place_of (home_of has.place) has.real) (IsDue e v has.place) (never has.place found.0) x.way

  place_is : place_of (home_of has.place) has.real ≡ place_of k q
  place_is = ap (λ p. place_of (home_of p) has.real) found.0 ∙ ap (place_of k) (sym found.1)

  -- it is one that the rounds allow
  pub right_place : start.done ≡ [] → IsRightPlace f f.tree (place_of home start) start k q
  right_place idle =
      let done : q.done ≡ x.one.replays.further =
      ap (λ (r : RealView). r.done) found.1 ∙ (further_done f start has.real x.one.replays ∙ ap (λ ds. ds ++ x.one.replays.further) idle) in
      subst (λ ds. IsPlaceAfter (distances_of f.settings) f.tree (place_of home start) start.state.pos (path_of f start ds) (place_of k q))
      (sym done)
      (subst (IsPlaceAfter (distances_of f.settings) f.tree (place_of home start) start.state.pos (path_of f start x.one.replays.further))
      place_is ended)

-- ---- a loaded world

module _ (f : Frame) (w : World) (b : Batch) (begin : MayBegin f w b) where
  module _ (v : World) (es : List Event) (run : RunsTo (loaded w b) es v) where
    -- each place is on its way
    pub placed_loaded : (e home : ℕ) (r : RealView) → real_at e (loaded w b) home ≡ Some r → IsPlaced (framed f b) e r.ty home r v
    placed_loaded e home r here =
        let settled = settled_loaded f w b begin e home r here in
        placed_leads (framed f b) refl home r (frame_loaded f w b begin) e r.ty settled.type (loaded w b) v es
        (one_loaded f w b begin e home r here).fits (spared_loaded f w b begin e home r here)
        (one_at_home (framed f b) (loaded w b) e home r settled (no_mail f w b begin e)) (listed e w b home r here) run

    module _ (quiet : IsQuiet node_has_work v) where
      pub right_loaded : (e home : ℕ) (r : RealView) → real_at e (loaded w b) home ≡ Some r → (k : ℕ)
          (q : RealView) → real_at e v k ≡ Some q → IsRightPlace f b.tree (place_of home r) r k q
      right_loaded e home r here k q at =
          right_place (framed f b) e r.ty home r v (placed_loaded e home r here) quiet k q at (its f w b begin e home r here).idle

      -- of an entity that was there
      pub right_kept : (e home : ℕ) (r : RealView) → real_at e w home ≡ Some r → (k : ℕ) (q : RealView) →
          real_at e v k ≡ Some q → IsRightPlace f b.tree (place_of home r) r k q
      right_kept e home r here k q at =
          let begins = was_begins f w b begin e home r here in
          right_loaded e home _ begins.here k q at

      -- of one that is created
      abbrev pub MadeRight : Create → Type 0
      MadeRight x = (k : ℕ) (q : RealView) → real_at x.entity v k ≡ Some q →
          IsRightPlace f b.tree (first_place b.tree x) (made_real f b.tree x) k q

      made_by : (xs : List Create) → AllByRecursion (λ x. BeginsAt w b x.entity (leaf_at b.tree x.pos) (made_real f b.tree x)) xs →
          AllByRecursion MadeRight xs
      made_by [] h = tt
      made_by (x ∷ xs) h = ((λ k q at. right_loaded x.entity (leaf_at b.tree x.pos) _ h.0.here k q at), made_by xs h.1)

      pub right_made : AllByRecursion MadeRight b.creates
      right_made = made_by b.creates (each_begins f w b begin)

      -- ---- the record of places

      placed_by : (e k : ℕ) (q : RealView) → real_at e v k ≡ Some q → Somewhere e (loaded w b) ⊎ Nowhere e
          (loaded w b) → IsRestful f.settings b.tree k q
      placed_by e k q at (inl p) = (restful_loaded f w b begin v es run e p.0 p.1 p.2).cells k q at (none_due e v quiet k)
      placed_by e k q at (inr n) =
          let gone = gone_leads (framed f b) (frame_loaded f w b begin) e (loaded w b) v es (in_frame f w b begin)
          (record { slots = n; mail = λ x y. ap (letters_of real_of) (no_mail f w b begin e x y) }) run in
          absurd (let z = sym (gone.slots k) ∙ at in cc)

      pub calls_place : ArePlaced (framed f b) v
      calls_place = record {
        space = begin.fits.space;
        settled = λ e k q at. placed_by e k q at (search_real e (loaded w b));
      }

-- ---- the last phases

module _ (f : Frame) (u : World) (between : IsBetweenRounds f u) where
  nobody_there : (e : ℕ) → Nowhere e u → holders u e ≡ 0
  nobody_there e n =
      none_counts u e (record {
        slots = n;
        mail = λ x y. ap (λ l. letters_of real_of (letters_of (mine e) l))
            (quiet_links node_has_work u between.nodes.sound.square between.quiet x y);
      })

  -- a real of a calm entity was there
  calm_was : (e home : ℕ) (r : RealView) → real_at e u home ≡ Some r → (told : Bool) (v : World) →
      IsCalm f e home r u told v → (k : ℕ) (q : RealView) → real_at e v k ≡ Some q → HadSameReal e k q u
  calm_was e home r here told v calm k q at =
      let is = (calm.nodes k).real q at in
      record {
        real = r;
        here = ap (λ j. real_at e u j) is.0 ∙ here;
        same = sym is.1.1 ∙ ap (λ x. let now : RealView = record r { witness = x } in now) (ap (λ (y : RealView). y.witness) is.1.1);
      }

  nowhere_then : (v : World) (e k : ℕ) (q : RealView) → real_at e v k ≡ Some q → holders v e ≡ 0 → HadSameReal e k q u
  nowhere_then v e k q at none = absurd (let z = sym ((counted_none v e none).slots k) ∙ at in cc)

  module _ (es : List ℕ) (may : AreReapable u es) (vs : List Event) (v : World) (run : RunsTo (reaps_loaded u es) vs v) where
    reaps_by : (e k : ℕ) (q : RealView) → real_at e v k ≡ Some q → Somewhere e u ⊎ Nowhere e u → HadSameReal e k q u
    reaps_by e k q at (inl p) =
        calm_was e p.0 p.1 p.2 (reaping.is_told e es) v
        (calm_leads f between.frame u between e p.0 p.1 p.2 (reaping.is_told e es)
        (reaping.small f u between es may e p.0 p.1 p.2) (reaps_loaded u es) v vs (reaping.calm f u between es may e p.0 p.1 p.2) run)
        k q at
    reaps_by e k q at (inr n) = nowhere_then v e k q at (reaping.none_come f u between es may vs v run e (nobody_there e n))

    pub reaps_leave : (e k : ℕ) (q : RealView) → real_at e v k ≡ Some q → HadSameReal e k q u
    reaps_leave e k q at = reaps_by e k q at (search_real e u)

  module _ (vs : List Event) (v : World) (run : RunsTo (look_loaded u) vs v) where
    looks_by : (e k : ℕ) (q : RealView) → real_at e v k ≡ Some q → Somewhere e u ⊎ Nowhere e u → HadSameReal e k q u
    looks_by e k q at (inl p) =
        calm_was e p.0 p.1 p.2 false v
        (calm_leads f between.frame u between e p.0 p.1 p.2 false (looking.small f u between p.1) (look_loaded u) v vs
        (looking.calm f u between e p.0 p.1 p.2) run) k q at
    looks_by e k q at (inr n) = nowhere_then v e k q at (looking.look_makes_none f u between vs v run e (nobody_there e n))

    pub looks_leave : (e k : ℕ) (q : RealView) → real_at e v k ≡ Some q → HadSameReal e k q u
    looks_leave e k q at = looks_by e k q at (search_real e u)

-- a world whose reals were all there keeps the record of places
pub stays_placed : (f : Frame) (u v : World) → ((e k : ℕ) (q : RealView) → real_at e v k ≡ Some q → HadSameReal e k q u) →
    ArePlaced f u → ArePlaced f v
stays_placed f u v was placed = record {
  space = placed.space;
  settled = λ e k q at.
      let there = was e k q at in
      subst (IsRestful f.settings f.tree k) (sym there.same)
      (placed.settled e k there.real there.here);
}

-- and a place that was right stays so
pub stays_right : (f : Frame) (b : Batch) (was : Place) (r : RealView) (e k : ℕ) (q : RealView) (u : World) (there : HadSameReal e k q u) →
    IsRightPlace f b.tree was r k there.real → IsRightPlace f b.tree was r k q
stays_right f b was r e k q u there is = subst (IsRightPlace f b.tree was r k) (sym there.same) is
