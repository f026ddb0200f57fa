-- What clients show along a round.
use Rattle.std.specs.Prelude.{ℕ, ◌==◌, if◌then◌else◌}
use Rattle.std.specs.List.{list_any}
use Rattle.seam_node_steps.specs.Prelude.{Batch, World}
use Rattle.seam_law_calls.specs.Prelude.{Frame, entity_flow, home_of, shown_at}
use Rattle.seam_rule_clients.specs.Clients.{ClientReplica, new_client, after_all_shown}

-- as a batch is loaded: a client that it attaches shows nothing, and each other what it showed
abbrev pub clients_loaded : Frame → Batch → (ℕ → ClientReplica) → ℕ → ClientReplica
clients_loaded f b clients e = if list_any (λ x. x == e) b.clients then new_client f.settings else clients e

-- once each was shown what its proxy showed since the load
abbrev pub clients_shown : Frame → (ℕ → ClientReplica) → World → ℕ → ClientReplica
clients_shown f clients w e = after_all_shown (clients e) (shown_at ((entity_flow e w).slot (home_of f e)))
