-- Each call once to the base part of an entity without a client: after every list of events.
use Rattle.seam_law_calls.proofs.Prelude.{◌≡◌, ℕ, true, List, ap, happens, Occurs, Event, Call as CallData, may_show, World, node_steps}
use Rattle.seam_law_calls.proofs.Prelude.{comes, Frame, here_at, IsInFrame, entity_flow, IsSpared, HasNoProxy, home_of, HasBaseCalls}
use Rattle.seam_law_calls.proofs.Prelude.{HasNoClient, RunsTo, slots_kept}
use Rattle.seam_law_calls.proofs.Classify.{event_moves}
use Rattle.seam_law_calls.proofs.OneReal.{spared_happens}
use Rattle.seam_law_calls.proofs.PartSteps.{part_moves}
use Rattle.seam_law_calls.proofs.ClientSteps.{client_after, stays_alone}
use Rattle.seam_law_calls.proofs.BaseRuns.{unordered, kept_happens}
use Rattle.seam_law_calls.proofs.Keeping.{run_keeps, EachKeeps, RunsKeep, runs_keep}

-- an entity without a client gets none
module _ (f : Frame) (e : ℕ) where
  bare_happens : (w : World) (v : Event) (o : Occurs w v) → IsInFrame f w → IsSpared e w → HasNoClient e w →
      HasNoClient e (happens node_steps w v)
  bare_happens w v o frame spared alone =
      let g = event_moves f w v o frame e in
      slots_kept (λ k s. HasNoProxy s.base.part) g alone
      (stays_alone (here_at f g.k) _ (comes g.input) _
      (client_after (here_at f g.k) e _ _ _ g.moves.sent (λ os. unordered e w g.k os spared)
      (part_moves f e g.k ((entity_flow e w).slot g.k) (comes g.input) ((entity_flow e (happens node_steps w v)).slot g.k) g.moves.sent
      g.moves.moves)) (alone g.k))

  pub bare_leads : (w v : World) (es : List Event) → IsInFrame f w → IsSpared e w → HasNoClient e w → RunsTo w es v → HasNoClient e v
  bare_leads w v es frame spared none run =
      (run_keeps f (λ x. IsSpared e x × HasNoClient e x)
      (λ x a o q h. (spared_happens f e x a o q h.0, bare_happens x a o q h.0 h.1)) w v es frame (spared, none) run).1

module _ (f : Frame) (e ty : ℕ) (first : ℕ → ℕ) (batch : ℕ → List CallData) where
  -- nothing is to be shown
  pub no_lines : (w : World) (h : HasBaseCalls f e ty first batch w) → HasNoClient e w → may_show h.part.part.proxy ≡ true
  no_lines w h alone = ap may_show (alone (home_of f e) h.part.part h.part.here)

  pub record Alone (w : World) : Type 0 where
    pub calls : HasBaseCalls f e ty first batch w
    pub alone : HasNoClient e w

  alone_happens : EachKeeps Alone
  alone_happens w v o h = record {
    calls = kept_happens f e ty first batch w v o h.calls (no_lines w h.calls h.alone);
    alone = bare_happens f e w v o h.calls.part.frame h.calls.spared h.alone;
  }

  pub alone_leads : RunsKeep Alone
  alone_leads = runs_keep Alone alone_happens
