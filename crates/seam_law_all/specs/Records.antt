-- The whole record between rounds.
use Rattle.std.specs.Prelude.{ℕ}
use Rattle.seam_node_steps.specs.Prelude.{GhostsReach, Batch, World}
use Rattle.seam_law_calls.specs.Prelude.{Frame}
use Rattle.seam_law_rounds.specs.Prelude.{IsBetweenRounds, IsFitting, MayBegin, HasPartsBetweenRounds, HasSmallNumbers, FitsParts}
use Rattle.seam_law_rounds.specs.Prelude.{MayBeLoaded}
use Rattle.seam_law_ghosts.specs.Prelude.{ArePlaced, AreCopiesBetweenRounds}
use Rattle.seam_law_clients.specs.Prelude.{ClientsFit}
use Rattle.seam_rule_clients.specs.Clients.{ClientReplica}

-- What a world keeps from the end of a round to the next load, by the definitions, the settings and the tree of the frame, where the
-- client of each entity e shows `clients e`.
pub record KeepsRecords (f : Frame) (clients : ℕ → ClientReplica) (w : World) : Type 0 where
  -- it is quiet, and each real is its entity's one, fits, and is where the routes go
  pub reals : IsBetweenRounds f w
  -- each entity has its base part, and a witness exactly where that has a client, in step with it
  pub parts : HasPartsBetweenRounds f w
  -- each entity is where the rules allow it to be
  pub places : ArePlaced f w
  -- cells have the copies that reals want, and no others
  pub copies : AreCopiesBetweenRounds f w
  -- what clients show is what their witnesses remember
  pub shown : ClientsFit f clients w
  -- ghosts reach as far as a witness sees
  pub reach : GhostsReach f.settings

-- the same, and numbers that only rise have room for reaps and looks: as it is within a round, between its phases
pub record KeepsRecordsWithin (f : Frame) (clients : ℕ → ClientReplica) (w : World) : Type 0 where
  pub records : KeepsRecords f clients w
  pub small : HasSmallNumbers f w

-- a batch that a world which keeps the records may be given
pub record MayBeGiven (f : Frame) (w : World) (b : Batch) : Type 0 where
  -- its creates, clients and calls to cell parts fit the reals
  pub reals : IsFitting f w b
  -- and its calls to base parts fit the parts
  pub parts : FitsParts f w b

module _ {f : Frame} {clients : ℕ → ClientReplica} {w : World} {b : Batch} where
  -- so a round may begin with the batch
  abbrev pub may_begin : KeepsRecords f clients w → MayBeGiven f w b → MayBegin f w b
  may_begin keeps given = record { between = keeps.reals; fits = given.reals }

  -- and it may be loaded
  abbrev pub may_load : KeepsRecords f clients w → MayBeGiven f w b → MayBeLoaded f w b
  may_load keeps given = record { begin = may_begin keeps given; parts = keeps.parts; brings = given.parts }
