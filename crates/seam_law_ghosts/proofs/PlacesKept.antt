-- A whole round leaves each entity at a place that the rounds allow, and keeps the record of places; an opened world has it.
use Rattle.seam_law_ghosts.proofs.Prelude.{◌≡◌, ℕ, ◌≤◌, List, [], ◌∷◌, Some, refl, sym, ◌∙◌, AllByRecursion, Settings, TypeDef, Place}
use Rattle.seam_law_ghosts.proofs.Prelude.{Create, Batch, RealView, World, opened, Frame, IsFrame, real_at, IsBetweenRounds, framed}
use Rattle.seam_law_ghosts.proofs.Prelude.{first_frame, MayBegin, place_of, first_place, made_real, IsRightPlace, GoesThroughRound}
use Rattle.seam_law_ghosts.proofs.Prelude.{HadSameReal, ArePlaced, calls_end_between, opened_has_none}
use Rattle.seam_law_rounds.proofs.Reaping.{reaps_end_between}
use Rattle.seam_law_ghosts.proofs.Ends.{MadeRight, right_kept, right_made, calls_place, reaps_leave, looks_leave, stays_placed, stays_right}

module _ (f : Frame) (w : World) (b : Batch) (begin : MayBegin f w b) (v : World) (round : GoesThroughRound w b v) where
  abbrev g : Frame
  g = framed f b

  called : IsBetweenRounds g round.called
  called = calls_end_between f w b begin round.called round.call_events round.calls round.calls_done

  reaped : IsBetweenRounds g round.reaped
  reaped = reaps_end_between g round.called called round.gone round.may round.reap_events round.reaped round.reaps round.reaps_done

  -- where a real was after the calls
  module _ (e k : ℕ) (q : RealView) (at : real_at e v k ≡ Some q) where
    looked : HadSameReal e k q round.reaped
    looked = looks_leave g round.reaped reaped round.look_events v round.looks e k q at

    was : HadSameReal e k looked.real round.called
    was = reaps_leave g round.called called round.gone round.may round.reap_events round.reaped round.reaps e k looked.real looked.here

    right_then : (place : Place) (r : RealView) → IsRightPlace f b.tree place r k was.real → IsRightPlace f b.tree place r k q
    right_then place r is =
        stays_right f b place r e k q round.reaped looked (stays_right f b place r e k looked.real round.called was is)

  pub round_kept : (e home : ℕ) (r : RealView) → real_at e w home ≡ Some r → (k : ℕ) (q : RealView) →
      real_at e v k ≡ Some q → IsRightPlace f b.tree (place_of home r) r k q
  round_kept e home r here k q at =
      let there = was e k q at in
      right_then e k q at (place_of home r) r
      (right_kept f w b begin round.called round.call_events round.calls round.calls_done e home r here k there.real there.here)

  abbrev Made : Create → Type 0
  Made x = (k : ℕ) (q : RealView) → real_at x.entity v k ≡ Some q →
      IsRightPlace f b.tree (first_place b.tree x) (made_real f b.tree x) k q

  each_made : (xs : List Create) → AllByRecursion (MadeRight f w b begin round.called round.call_events round.calls
      round.calls_done) xs → AllByRecursion Made xs
  each_made [] h = tt
  each_made (x ∷ xs) h = (
    (λ k q at.
        let there = was x.entity k q at in
        right_then x.entity k q at (first_place b.tree x) (made_real f b.tree x) (h.0 k there.real there.here)),
    each_made xs h.1,
  )

  pub round_made : AllByRecursion Made b.creates
  round_made =
      each_made b.creates (right_made f w b begin round.called round.call_events round.calls round.calls_done)

  pub round_places : ArePlaced g v
  round_places =
      stays_placed g round.reaped v (looks_leave g round.reaped reaped round.look_events v round.looks)
      (stays_placed g round.called round.reaped
      (reaps_leave g round.called called round.gone round.may round.reap_events round.reaped round.reaps)
      (calls_place f w b begin round.called round.call_events round.calls round.calls_done))

pub opened_places : (defs : List TypeDef) (settings : Settings) → IsFrame (first_frame defs settings) → 1 ≤ settings.bases →
    ArePlaced (first_frame defs settings) (opened defs settings)
opened_places defs settings frame bases = record {
  space = refl;
  settled = λ e k r at. absurd (let z = sym (opened_has_none defs settings frame bases e k) ∙ at in cc);
}
