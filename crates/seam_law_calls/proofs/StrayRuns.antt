-- Nothing about the entity is stray at a base node, over every list of events.
use Rattle.seam_law_calls.proofs.Prelude.{ℕ, ◌<◌, ◌≤◌, List, length, arith, Event, Call as CallData, World, Frame, IsInFrame, IsFrame}
use Rattle.seam_law_calls.proofs.Prelude.{IsSpared, HasOne, base_burden, HasBaseCalls, HasNoClient, HasClient, HasToldAtMost, HasRoomFor}
use Rattle.seam_law_calls.proofs.Prelude.{HasRoutes, no_client, client, NothingIsStray, RunsTo}
use Rattle.seam_law_calls.proofs.Easing.{falls_lead}
use Rattle.seam_law_calls.proofs.PartEasing.{base_burden_happens}
use Rattle.seam_law_calls.proofs.RoutesKept.{routes_happen}
use Rattle.seam_law_calls.proofs.AloneRuns.{alone_leads}
use Rattle.seam_law_calls.proofs.ClientLeads.{both_leads}
use Rattle.seam_law_calls.proofs.NoStray.{nothing_is_stray}
use Rattle.seam_law_calls.proofs.OneReal.{one_keeps}

-- ---- routes

module _ (f : Frame) (frame : IsFrame f) (e ty : ℕ) (known : ty < length f.defs) where
  pub routes_lead : (w v : World) (es : List Event) → HasOne f e ty w → IsSpared e w → HasRoutes f e w → RunsTo w es v → HasRoutes f e v
  routes_lead w v es one spared routes run =
      one_keeps f frame e ty known (HasRoutes f e) (λ x a o has its calm was. routes_happen f frame e ty known x a o has calm was) w v es
      one spared run routes

-- ---- what is yet to do

pub base_burden_leads : (f : Frame) (e : ℕ) (w v : World) (es : List Event) → IsInFrame f w → RunsTo w es v →
    base_burden e v ≤ base_burden e w
base_burden_leads f e w v es q run = falls_lead f (base_burden e) (base_burden_happens f e) w v es q run

-- ---- nothing is stray

module _ (f : Frame) (e ty : ℕ) (first : ℕ → ℕ) (batch : ℕ → List CallData) (w v : World) (es : List Event)
    (h : HasBaseCalls f e ty first batch w) (routes : HasRoutes f e w) (run : RunsTo w es v) where
  pub alone_without_stray : IsFrame f → ty < length f.defs → HasOne f e ty w → HasNoClient e w → NothingIsStray f e v
  alone_without_stray frame known one alone =
      let a = alone_leads f e ty first batch w v es (record { calls = h; alone = alone }) run in
      nothing_is_stray f e ty first batch 0 0 v a.calls (routes_lead f frame e ty known w v es one h.spared routes run) (no_client a.alone)

  pub client_without_stray : (update n : ℕ) → HasClient f e ty update w → HasRoomFor e n w → HasToldAtMost e n v → NothingIsStray f e v
  client_without_stray update n c room most =
      let both = both_leads f e ty first batch update n w v es (record { calls = h; client = c }) room run most in
      let less = base_burden_leads f e w v es h.part.frame run in
      nothing_is_stray f e ty first batch update n v both.calls
      (routes_lead f c.frame e ty c.known w v es c.one h.spared routes run) (client both.client most (omega (arith, less, room)))
