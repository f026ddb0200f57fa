-- In a round each call that is passed on climbs.
use Rattle.seam_law_bounds.proofs.Prelude.{◌≡◌, ℕ, ◌+◌, ◌≤◌, true, List, Option, None, Some, refl, sym, ap, ◌∙◌, arith, inl, inr, cases_eq}
use Rattle.seam_law_bounds.proofs.Prelude.{happens, enabled, Event, Batch, RealView, Msg, NextPlace, World, node_steps, node_has_work}
use Rattle.seam_law_bounds.proofs.Prelude.{loaded, Flow, Frame, Has, entity_flow, real_in, RunsTo, real_at, framed, MayBegin, ComesTo}
use Rattle.seam_law_bounds.proofs.Prelude.{AreRanked, Climbs, frame_loaded, settled_loaded, its, one_loaded, spared_loaded, routed_loaded}
use Rattle.seam_law_bounds.proofs.Prelude.{occurs}
use Rattle.seam_law_bounds.specs.Prelude.{rank_of}
use Rattle.seam_law_bounds.proofs.Ranking.{rank_real, rank_next, rank_none, Ranked, ranked_leads, climbs}

-- what a node without the real sends to its next place comes to a node of higher rank
pub passed_climbs : (w : Flow Has Msg) (top : ℕ) → AreRanked w top → (k : ℕ) (n : NextPlace) → real_in (w.slot k) ≡ None →
    (w.slot k).cell.slot.next ≡ Some n → (rank_of (w.slot k) + 1 ≡ n.generation) × ComesTo w k n.cell n.generation
passed_climbs w top a k n away at =
    let low = (a.nexts k n at).0 in
    let rank = rank_next (w.slot k) n away at in
    (omega (arith, low, rank), a.climb k n at)

module _ (f : Frame) (w : World) (b : Batch) (begin : MayBegin f w b) (e home : ℕ) (r : RealView)
    (here : real_at e (loaded w b) home ≡ Some r) where
  abbrev start : Flow Has Msg
  start = entity_flow e (loaded w b)

  pub no_next : (k : ℕ) → (start.slot k).cell.slot.next ≡ None
  no_next = (its f w b begin e home r here).nexts

  high_by : (k : ℕ) (o : Option RealView) → real_in (start.slot k) ≡ o → rank_of (start.slot k) ≤ r.generation
  high_by k None at = let none = rank_none (start.slot k) at (no_next k) in omega (arith, none)
  high_by k (Some q) at = elim (cases_eq k home) [
    | inl is ↦
        let same : r ≡ q = let z = sym here ∙ ap (λ j. real_in (start.slot j)) (sym is) ∙ at in cc in
        let rank = rank_real (start.slot k) q at in
        let gen = ap (λ (x : RealView). x.generation) same in
        omega (arith, rank, gen)
    | inr n ↦ absurd (let z = sym ((settled_loaded f w b begin e home r here).others k n) ∙ at in cc)
  ]

  pub ranked_loaded : Ranked (framed f b) (frame_loaded f w b begin) e r.ty (settled_loaded f w b begin e home r here).type (loaded w b)
  ranked_loaded = record {
    has = one_loaded f w b begin e home r here;
    spared = spared_loaded f w b begin e home r here;
    routed = routed_loaded f w b begin e home r here;
    ranks = record {
      highest = λ k. high_by k (real_in (start.slot k)) refl;
      nexts = λ k n at. absurd (let z = sym (no_next k) ∙ at in cc);
      climb = λ k n at. absurd (let z = sym (no_next k) ∙ at in cc);
    };
  }

  module _ (v : World) (es : List Event) (run : RunsTo (loaded w b) es v) where
    pub each_event_climbs : (x : Event) → enabled node_has_work v x ≡ true → Climbs e v (happens node_steps v x)
    each_event_climbs x on =
        climbs (framed f b) (frame_loaded f w b begin) e r.ty (settled_loaded f w b begin e home r here).type v x
        (occurs node_has_work v x on)
        (ranked_leads (framed f b) (frame_loaded f w b begin) e r.ty (settled_loaded f w b begin e home r here).type
        (loaded w b) v es ranked_loaded run)
