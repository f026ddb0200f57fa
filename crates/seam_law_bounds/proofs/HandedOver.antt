-- In a round a call is passed on at most as often as its entity's real is handed over.
use Rattle.seam_law_bounds.proofs.Prelude.{◌≡◌, ℕ, ◌+◌, ◌≤◌, List, Some, refl, sym, ap, ◌∙◌, subst, arith, inl, run, Event, Batch, RealView}
use Rattle.seam_law_bounds.proofs.Prelude.{World, node_steps, loaded, Frame, entity_flow, real_in, real_of, RunsTo, real_at, calls_of}
use Rattle.seam_law_bounds.proofs.Prelude.{next_from, framed, MayBegin, is_numbered, passes, hand_overs, sole_here, frame_loaded}
use Rattle.seam_law_bounds.proofs.Prelude.{settled_loaded, no_mail, are_calls}
use Rattle.seam_law_bounds.specs.Prelude.{rank_of}
use Rattle.seam_law_rounds.proofs.Going.{kept_loaded}
use Rattle.seam_law_bounds.proofs.Following.{Follows}
use Rattle.seam_law_bounds.proofs.Passing.{Passing, passing_is, passing_leads}
use Rattle.seam_law_bounds.proofs.Climbing.{no_next, ranked_loaded}

module _ (f : Frame) (w : World) (b : Batch) (begin : MayBegin f w b) (e home : ℕ) (r : RealView)
    (here : real_at e (loaded w b) home ≡ Some r) (s n : ℕ) where
  abbrev IsPassing : ℕ → ℕ → World → Type 0
  IsPassing h p v =
      Passing (framed f b) (frame_loaded f w b begin) e r.ty (settled_loaded f w b begin e home r here).type
      (λ x. next_from x r) (calls_of b e) (are_calls f w b begin e home r here) s n r.generation h p v

  -- the round begins with no letter and no next place
  passing_loaded : IsPassing 0 0 (loaded w b)
  passing_loaded =
      let ranked = ranked_loaded f w b begin e home r here in
      let same =
      (sole_here real_in real_of (entity_flow e (loaded w b)) ranked.routed.place ranked.routed.real r home ranked.routed.one here).1 in
      let gen = ap (λ (y : RealView). y.generation) same in
      record {
        kept = kept_loaded f w b begin e home r here;
        ranked = ranked;
        top = omega (arith, gen);
        few = omega arith;
        nexts = λ k q at. absurd (let z = sym (no_next f w b begin e home r here k) ∙ at in cc);
        climbed = record {
          unsent = inl refl;
          follows = λ k j.
              subst (Follows (is_numbered s n) (r.generation + 0) (r.generation + 0 ≤ rank_of ((entity_flow e (loaded w b)).slot j)))
              (sym (no_mail f w b begin e k j)) tt;
        };
      }

  module _ (v : World) (es : List Event) (on : RunsTo (loaded w b) es v) where
    passing_after : IsPassing (hand_overs e (loaded w b) es) (passes e s n (loaded w b) es) (run node_steps (loaded w b) es)
    passing_after =
        let hands = hand_overs e (loaded w b) es in
        let times = passes e s n (loaded w b) es in
        passing_is (framed f b) (frame_loaded f w b begin) e r.ty (settled_loaded f w b begin e home r here).type
        (λ x. next_from x r) (calls_of b e) (are_calls f w b begin e home r here) s n r.generation
        (run node_steps (loaded w b) es) hands times (0 + hands) (0 + times) (omega arith) (omega arith)
        (passing_leads (framed f b) (frame_loaded f w b begin) e r.ty (settled_loaded f w b begin e home r here).type
        (λ x. next_from x r) (calls_of b e) (are_calls f w b begin e home r here) s n r.generation (loaded w b) es 0 0
        passing_loaded on.each)

    pub passed_few : passes e s n (loaded w b) es ≤ hand_overs e (loaded w b) es
    passed_few = passing_after.few

    -- the generation of the real counts its hand-overs
    pub generation_counts : (k : ℕ) (q : RealView) → real_at e v k ≡ Some q → q.generation ≡ r.generation + hand_overs e (loaded w b) es
    generation_counts k q at =
        let its = passing_after in
        let there = sym (ap (λ y. real_at e y k) on.is_run) ∙ at in
        let same =
        (sole_here real_in real_of (entity_flow e (run node_steps (loaded w b) es)) its.ranked.routed.place its.ranked.routed.real q k
        its.ranked.routed.one there).1 in
        ap (λ (y : RealView). y.generation) same ∙ its.top
