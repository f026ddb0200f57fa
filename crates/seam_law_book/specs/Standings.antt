-- Where a standing has the entities of a world, the home, base and ghost lines that are read off one, and what clients show.
use Rattle.std.specs.Prelude.{◌≡◌, ℕ, List, [], ◌∷◌, slice_get, Option, None, Some}
use Rattle.std.specs.List.{flat_map}
use Rattle.seam_node_steps.specs.Prelude.{Place, GhostCopy, cell_numbers, RealView, PartView, World, Division}
use Rattle.seam_rule_rounds.specs.Prelude.{HomeLine, BaseLine, Header, Book, ClientReplica, GhostLine}
use Rattle.seam_law_calls.specs.Prelude.{real_at}
use Rattle.seam_law_rounds.specs.Prelude.{framed}
use Rattle.seam_law_ghosts.specs.Prelude.{place_of, GoesThroughRound}
use Rattle.seam_law_clients.specs.Prelude.{clients_loaded, clients_shown}
use Rattle.seam_law_all.specs.Prelude.{clients_looked}
use Rattle.seam_accept.specs.Batches.{batch_of}
use Rattle.seam_law_book.specs.Going.{frame_of}
use Rattle.seam_law_book.specs.LookUps.{copy_here}

-- each real is in the cell, and has a ghost in the cells, that these places say
abbrev pub AreInPlace : (ℕ → Place) → World → Type 0
AreInPlace places w = (e k : ℕ) (r : RealView) → real_at e w k ≡ Some r → places e ≡ place_of k r

-- the home line of a real that is in a cell
abbrev pub home_read : ℕ → ℕ → RealView → HomeLine
home_read e k r = record { entity = e; ty = r.ty; cell = k; version = r.version; state = r.state }

-- the base line of a base part
abbrev pub base_read : ℕ → PartView → BaseLine
base_read e p = record { entity = e; ty = p.ty; version = p.version; props = p.state.props }

-- the ghost line of the copy that a cell has of an entity, if it has one
abbrev pub ghost_read : ℕ → ℕ → Option GhostCopy → List GhostLine
ghost_read e k None = []
ghost_read e k (Some c) = record { entity = e; cell = k; version = c.version } ∷ []

-- the ghost lines of an entity: of each cell that has a copy of it
abbrev pub ghosts_read : ℕ → World → List GhostLine
ghosts_read e w = flat_map (λ k. ghost_read e k (copy_here e (slice_get w.nodes k))) cell_numbers

-- what clients show after the calls of a round: what they were shown since its load
abbrev pub clients_called : Header → Division → (ℕ → ClientReplica) → Book → World → ℕ → ClientReplica
clients_called h t clients b u =
    let f = frame_of h t in
    clients_shown (framed f (batch_of h b)) (clients_loaded f (batch_of h b) clients) u

-- and after the round: then they were shown one look
abbrev pub clients_ended : (h : Header) → Division → (ℕ → ClientReplica) → (w : World) (b : Book) (v : World) →
    GoesThroughRound w (batch_of h b) v → ℕ → ClientReplica
clients_ended h t clients w b v round = clients_looked (clients_called h t clients b round.called) round.reaped
