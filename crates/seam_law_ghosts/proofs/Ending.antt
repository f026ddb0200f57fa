-- The record of copies holds of an opened world, and again at the end of each phase; and what a phase of reaps leaves.
use Rattle.seam_law_ghosts.proofs.Prelude.{◌≡◌, ℕ, ◌<◌, ◌≤◌, false, List, [], ◌∷◌, None, Some, sym, ap, ◌∙◌, AllByRecursion, IsQuiet, Event}
use Rattle.seam_law_ghosts.proofs.Prelude.{Settings, TypeDef, RealView, cell_count, holders, NodeView, World, node_has_work, with_nodes}
use Rattle.seam_law_ghosts.proofs.Prelude.{reap_ordered_at, ordered_at, opened, reaps_loaded, look_loaded, In, Frame, entity_flow, real_in}
use Rattle.seam_law_ghosts.proofs.Prelude.{IsFrame, RunsTo, real_at, IsBetweenRounds, each, first_frame, AreReapable, book_entry, copy_at}
use Rattle.seam_law_ghosts.proofs.Prelude.{NewestAreWanted, IsForgotten, AreCopiesBetweenRounds, reaps_cell, look_cell, reals_stay}
use Rattle.seam_law_ghosts.proofs.Prelude.{opened_is_new, unknown_reaps, unknown_look}
use Rattle.seam_law_rounds.proofs.Reaping as reaping
use Rattle.seam_law_rounds.proofs.Looking as looking
use Rattle.seam_law_ghosts.proofs.NoStrays.{frame_reaps, frame_look}
use Rattle.seam_law_ghosts.proofs.Still.{quiet_mail}
use Rattle.seam_law_ghosts.proofs.Phasing.{phase_told, phase_forgotten, phase_ends_copied, phase_stays}
use Rattle.seam_law_ghosts.proofs.Loading.{books_turned}

-- ---- an opened world

pub opened_copied : (defs : List TypeDef) (settings : Settings) → IsFrame (first_frame defs settings) → 1 ≤ settings.bases →
    AreCopiesBetweenRounds (first_frame defs settings) (opened defs settings)
opened_copied defs settings frame bases = record {
  settled = λ e k r at. absurd (let z = sym (ap real_in (opened_is_new defs settings frame bases e k)) ∙ at in cc);
  none = λ e zero k low. ap (λ h. (book_entry h).1) (opened_is_new defs settings frame bases e k);
}

-- ---- a phase of reaps

module _ (f : Frame) (u : World) (between : IsBetweenRounds f u) (copies : AreCopiesBetweenRounds f u) (es : List ℕ)
    (may : AreReapable u es) (vs : List Event) (v : World) (run : RunsTo (reaps_loaded u es) vs v) where
  abbrev turn : NodeView → NodeView
  turn = each reap_ordered_at es

  is_loaded : reaps_loaded u es ≡ with_nodes u turn
  is_loaded = reaping.loaded_is f u between es may

  books : (e k : ℕ) → book_entry ((entity_flow e (reaps_loaded u es)).slot k) ≡ book_entry ((entity_flow e u).slot k)
  books e k = ap (λ w. book_entry ((entity_flow e w).slot k)) is_loaded ∙ books_turned e turn (reaps_cell e es) u k

  stay : (e k : ℕ) → real_at e (reaps_loaded u es) k ≡ real_at e u k
  stay e k = ap (λ w. real_at e w k) is_loaded ∙ reals_stay e turn (reaps_cell e es) u k

  idle : (e x y : ℕ) → (entity_flow e (reaps_loaded u es)).mail x y ≡ []
  idle e x y =
      ap (λ w. (entity_flow e w).mail x y) is_loaded
      ∙ quiet_mail f u between.nodes between.quiet e x y

  -- while the real is there, each cell is told what it wants
  pub reaps_told : (e home : ℕ) (r q : RealView) → real_at e u home ≡ Some r → real_at e v home ≡ Some q → NewestAreWanted f e v (In home) q
  reaps_told e home r q there at =
      phase_told f u between copies (reaps_loaded u es) (frame_reaps f u between es may) (λ e. reaping.is_told e es)
      (reaping.small f u between es may) (reaping.calm f u between es may) (unknown_reaps f u between es may) books stay idle v vs run
      e home r there q at

  -- once it is gone, each cell is told that
  pub reaps_forgotten : (e home : ℕ) (r : RealView) → real_at e u home ≡ Some r → real_at e v home ≡ None → IsForgotten e v
  reaps_forgotten e home r there at =
      phase_forgotten f u between copies (reaps_loaded u es) (frame_reaps f u between es may) (λ e. reaping.is_told e es)
      (reaping.small f u between es may) (reaping.calm f u between es may) (unknown_reaps f u between es may) books stay idle v vs run
      e home r there at

  module _ (quiet : IsQuiet node_has_work v) where
    pub reaps_end_copied : AreCopiesBetweenRounds f v
    reaps_end_copied =
        phase_ends_copied f u between copies (reaps_loaded u es) (frame_reaps f u between es may) (λ e. reaping.is_told e es)
        (reaping.small f u between es may) (reaping.calm f u between es may) (unknown_reaps f u between es may) books stay idle v vs run
        quiet

    none_of : (xs : List ℕ) → AllByRecursion (λ e. holders v e ≡ 0) xs →
        AllByRecursion (λ e. (k : ℕ) → k < cell_count → copy_at e v k ≡ None) xs
    none_of [] h = tt
    none_of (x ∷ xs) h = (reaps_end_copied.none x h.0, none_of xs h.1)

    -- no cell has a copy of an entity that was reaped
    pub reaped_have_none : AllByRecursion (λ e. (k : ℕ) → k < cell_count → copy_at e v k ≡ None) es
    reaped_have_none = none_of es (reaping.all_reaped f u between es may vs v run quiet)

    -- and the copies of each that is not to be reaped are what they were
    pub others_copied : (e : ℕ) → holders u e ≡ 1 → AllByRecursion (λ x. x ≡ e → ⊥) es → (k : ℕ) → k < cell_count →
        copy_at e v k ≡ copy_at e u k
    others_copied e one others =
        phase_stays f u between copies (reaps_loaded u es) (frame_reaps f u between es may) (λ e. reaping.is_told e es)
        (reaping.small f u between es may) (reaping.calm f u between es may) (unknown_reaps f u between es may) books stay idle v vs run
        quiet e one (reaping.others_stay f u between es may vs v run e one others)

-- ---- a phase of looks

module _ (f : Frame) (u : World) (between : IsBetweenRounds f u) (copies : AreCopiesBetweenRounds f u) (vs : List Event) (v : World)
    (run : RunsTo (look_loaded u) vs v) where
  look_idle : (e x y : ℕ) → (entity_flow e (look_loaded u)).mail x y ≡ []
  look_idle = quiet_mail f u between.nodes between.quiet

  look_books : (e k : ℕ) → book_entry ((entity_flow e (look_loaded u)).slot k) ≡ book_entry ((entity_flow e u).slot k)
  look_books e k = books_turned e (ordered_at looking.tick) (look_cell e looking.tick) u k

  look_stay : (e k : ℕ) → real_at e (look_loaded u) k ≡ real_at e u k
  look_stay e k = reals_stay e (ordered_at looking.tick) (look_cell e looking.tick) u k

  pub looks_told : (e home : ℕ) (r q : RealView) → real_at e u home ≡ Some r → real_at e v home ≡ Some q → NewestAreWanted f e v (In home) q
  looks_told e home r q there at =
      phase_told f u between copies (look_loaded u) (frame_look f u between) (λ e. false) (λ e home r here. looking.small f u between r)
      (looking.calm f u between) (unknown_look f u between) look_books look_stay look_idle v vs run e home r there q at

  pub looks_end_copied : IsQuiet node_has_work v → AreCopiesBetweenRounds f v
  looks_end_copied =
      phase_ends_copied f u between copies (look_loaded u) (frame_look f u between) (λ e. false)
      (λ e home r here. looking.small f u between r) (looking.calm f u between) (unknown_look f u between) look_books look_stay look_idle
      v vs run

  pub looks_stay : IsQuiet node_has_work v → (e : ℕ) → holders u e ≡ 1 → (k : ℕ) → k < cell_count → copy_at e v k ≡ copy_at e u k
  looks_stay quiet e one =
      phase_stays f u between copies (look_loaded u) (frame_look f u between) (λ e. false) (λ e home r here. looking.small f u between r)
      (looking.calm f u between) (unknown_look f u between) look_books look_stay look_idle v vs run quiet e one
      (looking.look_keeps f u between vs v run e one)
