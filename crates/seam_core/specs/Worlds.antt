-- Worlds that a run reaches, and the laws that hold of each.
use Rattle.std.specs.Prelude.{◌≡◌, ℕ, ◌+◌, ◌≤◌, List, length, Some, if◌then◌else◌}
use Rattle.std.specs.List.{AllByRecursion}
use Rattle.seam_node_steps.specs.Prelude.{TypeDef, Settings, LeadsTo, IsQuiet, Event, Batch, GhostCopy, cell_count, RealView, holders}
use Rattle.seam_node_steps.specs.Prelude.{EachNode, NodeView, World, node_steps, node_peers, IsNode}
use Rattle.seam_node_steps.specs.Prelude.{node_has_work, loaded, reaps_loaded, look_loaded}
use Rattle.seam_law_flow.specs.Prelude.{In}
use Rattle.seam_net_runs.specs.Sound.{IsSound}
use Rattle.seam_law_calls.specs.Prelude.{Frame, Knows, entity_flow, real_in}
use Rattle.seam_law_rounds.specs.Prelude.{framed, AreReapable, reap_comes}
use Rattle.seam_law_ghosts.specs.Prelude.{IsHushed, copy_at}
use Rattle.seam_law_clients.specs.Prelude.{clients_loaded, clients_shown}
use Rattle.seam_law_all.specs.Prelude.{KeepsRecords, KeepsRecordsWithin, MayBeGiven, ObeysLaws, EndsRightly, ObeysLawsOfReaps, AreGone}
use Rattle.seam_law_all.specs.Prelude.{ObeysLawsOfLooks, AreShownOneLook, clients_looked}
use Rattle.seam_rule_clients.specs.Clients.{ClientReplica}
use Rattle.seam_core.specs.Begun.{HasSpace}

-- node k goes by these definitions and settings, in the settings' space
abbrev pub GoesBy : List TypeDef → Settings → ℕ → NodeView → Type 0
GoesBy defs settings k s = Knows defs settings k s × HasSpace settings.size s

-- a world has all its nodes, they send to its nodes alone, and go by the same definitions and settings
pub record IsWorld (w : World) : Type 0 where
  pub defs : List TypeDef
  pub settings : Settings
  pub sound : IsSound node_peers IsNode w
  pub nodes : EachNode (GoesBy defs settings) w.nodes
  pub many : length w.nodes ≡ cell_count + settings.bases

-- events lead from one world to another
abbrev pub Leads : World → List Event → World → Type 0
Leads u es v = LeadsTo node_has_work node_steps u es v

-- ---- where a world comes from

-- events led to v from a world w that keeps the records between rounds and was given the batch b, which fits it
pub record FromCalls (f : Frame) (clients : ℕ → ClientReplica) (w : World) (b : Batch) (v : World) : Type 0 where
  pub keeps : KeepsRecords f clients w
  pub may : MayBeGiven f w b
  pub events : List Event
  pub leads : Leads (loaded w b) events v

-- events led to v from a world u that keeps the records within a round and was told to reap entities that are there
pub record FromReaps (f : Frame) (clients : ℕ → ClientReplica) (u : World) (es : List ℕ) (v : World) : Type 0 where
  pub keeps : KeepsRecordsWithin f clients u
  pub may : AreReapable u es
  pub events : List Event
  pub leads : Leads (reaps_loaded u es) events v

-- events led to v from such a world u, whose witnesses are to look
pub record FromLooks (f : Frame) (clients : ℕ → ClientReplica) (u v : World) : Type 0 where
  pub keeps : KeepsRecordsWithin f clients u
  pub events : List Event
  pub leads : Leads (look_loaded u) events v

-- an entity lives in v: it was there once as the phase began, and is not to be reaped
pub data Lives (e : ℕ) (v : World) : Type 0 where
  in_calls : (f : Frame) (clients : ℕ → ClientReplica) (w : World) (b : Batch) → FromCalls f clients w b v → holders (loaded w b) e ≡ 1
      → Lives e v
  in_reaps : (f : Frame) (clients : ℕ → ClientReplica) (u : World) (es : List ℕ) → FromReaps f clients u es v → holders u e ≡ 1
      → AllByRecursion (λ x. x ≡ e → ⊥) es → Lives e v
  in_looks : (f : Frame) (clients : ℕ → ClientReplica) (u : World) → FromLooks f clients u v → holders u e ≡ 1 → Lives e v

-- ---- the laws

-- What a phase leaves where it ends, in a quiet world v: it did all that it was to do, and v keeps the records again.
pub record EndsPhases (v : World) : Type 0 where
  -- all calls were executed, each place is a right one, and everything is settled
  pub settled : (f : Frame) (clients : ℕ → ClientReplica) (w : World) (b : Batch) → FromCalls f clients w b v → (e home : ℕ)
      (r : RealView) → real_in ((entity_flow e (loaded w b)).slot home) ≡ Some r → (k : ℕ) (q : RealView) →
      real_in ((entity_flow e v).slot k) ≡ Some q → EndsRightly f b e home r k q v
  pub calls : (f : Frame) (clients : ℕ → ClientReplica) (w : World) (b : Batch) → FromCalls f clients w b v →
      KeepsRecordsWithin (framed f b) (clients_shown (framed f b) (clients_loaded f b clients) v) v
  -- nothing is left of the reaped
  pub gone : (f : Frame) (clients : ℕ → ClientReplica) (u : World) (es : List ℕ) → FromReaps f clients u es v → AreGone es v
  pub reaps : (f : Frame) (clients : ℕ → ClientReplica) (u : World) (es : List ℕ) → FromReaps f clients u es v →
      KeepsRecordsWithin f clients v
  -- each client was shown one look
  pub shown : (f : Frame) (clients : ℕ → ClientReplica) (u : World) → FromLooks f clients u v → AreShownOneLook f clients u v
  pub looks : (f : Frame) (clients : ℕ → ClientReplica) (u : World) → FromLooks f clients u v → KeepsRecords f (clients_looked clients u) v

-- whatever events follow on v, no cell has an older copy of the entity than it had
abbrev pub CopiesNeverFall : ℕ → World → Type 0
CopiesNeverFall e v = (u : World) (es : List Event) → Leads v es u → (k : ℕ) (c d : GhostCopy) → copy_at e v k ≡ Some c →
    copy_at e u k ≡ Some d → c.version ≤ d.version

-- The laws, of a world v: wherever it comes from, by calls, by reaps or by looks, it obeys the laws of that phase, and where it is quiet
-- the phase has ended rightly.
pub record KeepsLaws (v : World) : Type 0 where
  pub calls : (f : Frame) (clients : ℕ → ClientReplica) (w : World) (b : Batch) → FromCalls f clients w b v → ObeysLaws f clients w b v
  -- by the calls copies never fall back, and where the real is no newer one comes
  pub versions : (f : Frame) (clients : ℕ → ClientReplica) (w : World) (b : Batch) → FromCalls f clients w b v → (e : ℕ) →
      holders (loaded w b) e ≡ 1 → CopiesNeverFall e v
  pub hushed : (f : Frame) (clients : ℕ → ClientReplica) (w : World) (b : Batch) → FromCalls f clients w b v → (e : ℕ) →
      holders (loaded w b) e ≡ 1 → (k : ℕ) (q : RealView) → real_in ((entity_flow e v).slot k) ≡ Some q → IsHushed e v (In k)
  pub reaps : (f : Frame) (clients : ℕ → ClientReplica) (u : World) (es : List ℕ) → FromReaps f clients u es v → ObeysLawsOfReaps f u es v
  -- an entity has its one real until its Reap comes, and none from then on
  pub until : (f : Frame) (clients : ℕ → ClientReplica) (u : World) (es : List ℕ) (from : FromReaps f clients u es v) (e : ℕ) →
      holders u e ≡ 1 → holders v e ≡ (if reap_comes e (reaps_loaded u es) from.events then 0 else 1)
  pub looks : (f : Frame) (clients : ℕ → ClientReplica) (u : World) → FromLooks f clients u v → ObeysLawsOfLooks f clients u v
  pub ends : IsQuiet node_has_work v → EndsPhases v
