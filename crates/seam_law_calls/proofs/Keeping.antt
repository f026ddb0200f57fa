-- A law over lists of events from one over events, and from one over moves: P is true of what each node has of an entity, Q of each
-- message about it on its way, and each move keeps both.
use Rattle.seam_law_calls.proofs.Prelude.{◌≡◌, ℕ, List, [], ◌∷◌, Option, Some, AllByRecursion, happens, Occurs, Event, Msg, World}
use Rattle.seam_law_calls.proofs.Prelude.{node_steps, node_has_work, comes, Frame, IsInFrame, Has, entity_flow, Moves, RunsTo, occurs}
use Rattle.seam_law_calls.proofs.Prelude.{leads_keeps, slots_kept, came, sent_kept, ◌++◌}
use Rattle.seam_law_calls.proofs.Classify.{event_moves, frame_happens}
use Rattle.seam_net_runs.proofs.Runs.{leads_extend, leads_nowhere}

-- a fact of worlds that each event keeps
abbrev pub EachKeeps : (World → Type 0) → Type 0
EachKeeps I = (w : World) (v : Event) → Occurs w v → I w → I (happens node_steps w v)

-- and one that each list of events keeps
abbrev pub RunsKeep : (World → Type 0) → Type 0
RunsKeep I = (w v : World) (es : List Event) → I w → RunsTo w es v → I v

pub runs_keep : (I : World → Type 0) → EachKeeps I → RunsKeep I
runs_keep I keep w v es fact run =
    leads_keeps node_has_work node_steps I (λ x a h on. keep x a (occurs node_has_work x a on) h) w v es fact run

-- and one that it keeps in the worlds that are reached from a start
module _ (start : World) (I : World → Type 0) where
  record Reached (w : World) : Type 0 where
    before : List Event
    from : RunsTo start before w
    fact : I w

  pub reached_keep : ((w : World) (us : List Event) → RunsTo start us w → (v : Event) → Occurs w v → I w → I (happens node_steps w v)) →
      (v : World) (es : List Event) → I start → RunsTo start es v → I v
  reached_keep keep v es fact run =
      (leads_keeps node_has_work node_steps Reached (λ w x h on. record {
        before = h.before ++ x ∷ [];
        from = leads_extend node_has_work node_steps start w h.before x h.from on;
        fact = keep w h.before h.from x (occurs node_has_work w x on) h.fact;
      }) start v es (record { before = []; from = leads_nowhere node_has_work node_steps start; fact = fact }) run).fact

-- the same of worlds that go by the frame
module _ (f : Frame) (I : World → Type 0) where
  abbrev pub EventsKeep : Type 0
  EventsKeep = (w : World) (v : Event) → Occurs w v → IsInFrame f w → I w → I (happens node_steps w v)

  abbrev pub FramedKeep : Type 0
  FramedKeep = (w v : World) (es : List Event) → IsInFrame f w → I w → RunsTo w es v → I v

  pub run_keeps : EventsKeep → FramedKeep
  run_keeps keep w v es frame fact run =
      (runs_keep (λ x. IsInFrame f x × I x) (λ x a o h. (frame_happens f x a o h.0, keep x a o h.0 h.1)) w v es (frame, fact) run).1

pub frame_leads : (f : Frame) → RunsKeep (IsInFrame f)
frame_leads f = runs_keep (IsInFrame f) (frame_happens f)

-- what is asked of no message is true of all
pub units : {X : Type 0} (xs : List X) → AllByRecursion (λ x. Unit {0}) xs
units [] = tt
units (x ∷ xs) = (tt, units xs)

module _ (f : Frame) (e : ℕ) (P : ℕ → Has → Type 0) (Q : ℕ → ℕ → Msg → Type 0) where
  pub record AllAre (w : World) : Type 0 where
    pub slots : (k : ℕ) → P k ((entity_flow e w).slot k)
    pub letters : (a k : ℕ) → AllByRecursion (Q a k) ((entity_flow e w).mail a k)

  -- a move of node k, where P is true of what it has and Q of what comes, leaves both
  abbrev pub MovesKeep : Type 0
  MovesKeep = (k : ℕ) (s : Has) (i : Option Msg) (t : Has) (sent : List (ℕ × Msg)) → P k s →
      ((m : Msg) → i ≡ Some m → (a : ℕ) × Q a k m) → Moves f e k s i t sent → P k t × AllByRecursion (λ p. Q k p.0 p.1) sent

  pub all_happen : MovesKeep → (w : World) (v : Event) → Occurs w v → IsInFrame f w → AllAre w → AllAre (happens node_steps w v)
  all_happen keep w v o frame h =
      let g = event_moves f w v o frame e in
      let x = keep g.k ((entity_flow e w).slot g.k) (comes g.input) ((entity_flow e (happens node_steps w v)).slot g.k) g.moves.sent
      (h.slots g.k) (λ m is. came Q g m is h.letters) g.moves.moves in
      record {
        slots = slots_kept P g h.slots x.0;
        letters = sent_kept Q g g.moves.sent g.moves.items h.letters x.1;
      }

  pub all_lead : MovesKeep → FramedKeep f AllAre
  all_lead keep = run_keeps f AllAre (all_happen keep)

-- the same of what nodes have alone
module _ (f : Frame) (e : ℕ) (P : ℕ → Has → Type 0) where
  pub slots_lead : ((k : ℕ) (s : Has) (i : Option Msg) (t : Has) (sent : List (ℕ × Msg)) → P k s → Moves f e k s i t sent → P k t) →
      FramedKeep f (λ w. (k : ℕ) → P k ((entity_flow e w).slot k))
  slots_lead keep w v es frame h run =
      (all_lead f e P (λ a k m. Unit {0}) (λ k s i t sent here come m. (keep k s i t sent here m, units sent)) w v es frame
      (record { slots = h; letters = λ a k. units ((entity_flow e w).mail a k) }) run).slots
