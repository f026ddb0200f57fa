-- Along the calls of a round: what an entity executed so far comes first of all that it executes.
use Rattle.seam_law_transcript.proofs.Prelude.{◌≡◌, ℕ, ◌<◌, List, ◌++◌, length, Some, ap, ◌∙◌, Event, type_of, Call as CallData, RealView}
use Rattle.seam_law_transcript.proofs.Prelude.{World, Frame, entity_flow, real_in, real_of, IsFrame, IsSpared, HasOne, account_of, RunsTo}
use Rattle.seam_law_transcript.proofs.Prelude.{real_at, sole_here, one_leads, done_after}

module _ (f : Frame) (frame : IsFrame f) (e ty : ℕ) (known : ty < length f.defs) (u v : World) (es : List Event) (one : HasOne f e ty u)
    (spared : IsSpared e u) (run : RunsTo u es v) (k : ℕ) (q : RealView) (at : real_at e v k ≡ Some q) where
  pub later_calls : (more : List CallData) × (q.done ≡ one.real.done ++ more)
  later_calls =
      let o = one_leads f frame e ty known u v es one spared run in
      let same = (sole_here real_in real_of (entity_flow e v) o.has.place o.has.real q k o.has.one at).1 in (
        o.replays.further,
        ap (λ (r : RealView). r.done) same ∙ ap (λ a. a.done) o.replays.account
            ∙ done_after (type_of f.defs one.real.ty) (account_of one.real) o.replays.further,
      )
