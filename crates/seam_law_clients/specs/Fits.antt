-- What a client shows within a round: it fits its witness, whose cell knows what is true.
use Rattle.std.specs.Prelude.{◌≡◌, ℕ, ◌≤◌, Some, option_map}
use Rattle.seam_view.specs.Replica.{IsView}
use Rattle.seam_node_steps.specs.Prelude.{State, GhostCopy, RealView, WitnessView, known_of, CellView, known_to}
use Rattle.seam_law_calls.specs.Prelude.{Frame}
use Rattle.seam_rule_clients.specs.Clients.{ClientReplica}
use Rattle.seam_rule_clients.specs.Lines.{Truth}
use Rattle.seam_law_clients.specs.Witnesses.{version_in, own_now}

-- A client that shows c fits the witness v of its entity's real r, by what the two of them remember: nothing is said of other entities,
-- which within a round may be anywhere.
pub record FitsWithin (f : Frame) (r : RealView) (v : WitnessView) (c : ClientReplica) : Type 0 where
  -- it has the others in view that the witness has, and was shown the versions of others that the witness remembers
  pub others : c.others ≡ v.view
  -- none of them is in view twice, and each is there at the version last shown
  pub view : IsView v.view
  -- the distances of the view are those of the settings
  pub radius : v.view.radius ≡ f.settings.view_radius
  pub hysteresis : v.view.hysteresis ≡ f.settings.view_hysteresis
  -- the version of its last own line is the one that the witness told last
  pub told : option_map version_in c.own ≡ v.told
  -- that is at most the real's version
  pub not_ahead : (version : ℕ) → v.told ≡ Some version → version ≤ r.version
  -- and where it is the real's version, the own line showed what the real is now, and so where it is
  pub own : (shown : State) → c.own ≡ Some (r.version, shown) → shown ≡ own_now f r

-- what the cell knows of each entity other than e is true
abbrev pub KnowsTruth : Truth → CellView → ℕ → Type 0
KnowsTruth t cell e = (x : ℕ) (d : GhostCopy) → known_of x (known_to cell e) ≡ Some d → t.other x d

-- what is true at a look of the real r: of its own state what it is now, and of others what the cell knows
abbrev pub truth_of_look : Frame → RealView → CellView → ℕ → Truth
truth_of_look f r cell e = record {
  own = λ version state. (version ≡ r.version) × (state ≡ own_now f r);
  other = λ x d. known_of x (known_to cell e) ≡ Some d;
}
