-- In a round the newest route of each base node leads to the real.
use Rattle.seam_law_ghosts.proofs.Prelude.{◌≡◌, ℕ, ◌+◌, ◌<◌, ◌≤◌, List, Some, subst, Event, Batch, RealView, cell_count, holders, World}
use Rattle.seam_law_ghosts.proofs.Prelude.{loaded, TokenPlace, Frame, entity_flow, IsOne, RunsTo, real_at, framed, NewestRouteIsRight}
use Rattle.seam_law_ghosts.proofs.Prelude.{MayBegin, frame_loaded, settled_loaded, one_loaded, spared_loaded, routed_loaded}
use Rattle.seam_law_rounds.proofs.RoadRuns.{routed_leads}
use Rattle.seam_law_ghosts.proofs.Still.{same_one}
use Rattle.seam_law_ghosts.proofs.Loading.{home_loaded}

module _ (f : Frame) (w : World) (b : Batch) (begin : MayBegin f w b) (v : World) (es : List Event) (run : RunsTo (loaded w b) es v) where
  abbrev g : Frame
  g = framed f b

  abbrev start : World
  start = loaded w b

  module _ (e home : ℕ) (r : RealView) (here : real_at e start home ≡ Some r) where
    routes_then : (p : TokenPlace) (q : RealView) → IsOne e v p q → (j : ℕ) → cell_count ≤ j → j < cell_count + f.settings.bases →
        NewestRouteIsRight p q (entity_flow e v) j
    routes_then p q is j high low =
        let x = routed_leads g e (frame_loaded f w b begin) r.ty (settled_loaded f w b begin e home r here).type start v es
        (one_loaded f w b begin e home r here) (spared_loaded f w b begin e home r here)
        (routed_loaded f w b begin e home r here) run in
        let same = same_one e v x.place p x.real q x.one is in
        subst (λ y. NewestRouteIsRight p y (entity_flow e v) j) same.1 (subst (λ y. NewestRouteIsRight y x.real (entity_flow e v) j) same.0
        (x.known j high low))

  pub routes_each : (e : ℕ) → holders start e ≡ 1 → (p : TokenPlace) (q : RealView) → IsOne e v p q → (j : ℕ) → cell_count ≤ j →
      j < cell_count + f.settings.bases → NewestRouteIsRight p q (entity_flow e v) j
  routes_each e one = let h = home_loaded f w b begin e one in routes_then e h.0 h.1 h.2
