-- A round of a world.
use Rattle.std.specs.Prelude.{◌≡◌, ℕ, ◌-◌, ◌*◌, ◌≤◌, List, length}
use Rattle.seam_node_steps.specs.Prelude.{IsQuiet, Event, Batch, cell_count, World, node_has_work, loaded, reaps_loaded, look_loaded}
use Rattle.seam_law_calls.specs.Prelude.{Frame}
use Rattle.seam_law_ghosts.specs.Prelude.{GoesThroughRound}
use Rattle.seam_law_all.specs.Prelude.{KeepsRecords, MayBeGiven}
use Rattle.seam_law_bounds.specs.Prelude.{IsBounded, entities, all_witnesses, cell_orders, base_orders, tick_orders, events_of_round}
use Rattle.seam_law_bounds.specs.Prelude.{events_of_looks}
use Rattle.seam_rule_clients.specs.Clients.{ClientReplica}
use Rattle.seam_core.specs.Worlds.{Leads}
use Rattle.seam_watch.specs.declared.journal.Journal.{Journal}

-- a world that keeps all that worlds keep between rounds, and a batch that it may be given
pub record MayRun (f : Frame) (clients : ℕ → ClientReplica) (w : World) (b : Batch) : Type 0 where
  pub keeps : KeepsRecords f clients w
  pub bounded : IsBounded w
  pub given : MayBeGiven f w b

-- The journal stands for the round from w, with the batch b, to v: its events, each enabled at its place, make the three phases, each of
-- which ends quiet; and the batch's destroys are reaped, and no others.
pub record IsJournalOf (w : World) (b : Batch) (j : Journal) (v : World) : Type 0 where
  pub round : GoesThroughRound w b v
  pub quiet : IsQuiet node_has_work v
  pub gone : round.gone ≡ b.destroys
  pub calls : round.call_events ≡ j.calls
  pub reaps : round.reap_events ≡ j.reaps
  pub looks : round.look_events ≡ j.looks

-- how many base nodes a world has, beside its cells
abbrev pub bases_of : World → ℕ
bases_of w = length w.nodes - cell_count

-- how many events the calls of a batch take at most
abbrev pub most_of_calls : World → Batch → ℕ
most_of_calls w b = events_of_round (bases_of w) (cell_orders b) (base_orders b) (tick_orders b) (entities (loaded w b))
    (all_witnesses (loaded w b))

-- the journal is no longer than the table of a round allows, where the looks begin in world u
pub record IsWithinTable (w : World) (b : Batch) (j : Journal) (u : World) : Type 0 where
  pub calls : length j.calls ≤ most_of_calls w b
  pub reaps : length j.reaps ≤ 18 * length b.destroys
  pub looks : length j.looks ≤ events_of_looks (entities (loaded w b)) (all_witnesses u)

-- a phase of the round from w, with the batch b, begins in world u
pub data BeginsPhase (w : World) (b : Batch) (u : World) : Type 0 where
  calls_begin : u ≡ loaded w b → BeginsPhase w b u
  reaps_begin : (v : World) (es : List Event) → Leads (loaded w b) es v → IsQuiet node_has_work v → u ≡ reaps_loaded v b.destroys →
      BeginsPhase w b u
  looks_begin : (round : GoesThroughRound w b u) → round.gone ≡ b.destroys → u ≡ look_loaded round.reaped → BeginsPhase w b u
