-- Clients between rounds: what each shows is what its witness remembers that it told.
use Rattle.std.specs.Prelude.{◌≡◌, ℕ, ◌≤◌, Some, option_map}
use Rattle.std.specs.FinMap as table
use Rattle.seam_view.specs.Replica.{IsView}
use Rattle.seam_node_steps.specs.Prelude.{State, own_of, type_of, RealView, WitnessView, World}
use Rattle.seam_law_calls.specs.Prelude.{Frame, real_at}
use Rattle.seam_rule_clients.specs.Clients.{ClientReplica}

-- the version of an own line
abbrev pub version_in : ℕ × State → ℕ
version_in o = o.0

-- what its own client is shown of a real now
abbrev pub own_now : Frame → RealView → State
own_now f r = own_of (type_of f.defs r.ty).properties r.state

-- A client that shows c fits the witness v of its entity's real r, in the world w.
pub record FitsWitness (f : Frame) (w : World) (r : RealView) (v : WitnessView) (c : ClientReplica) : Type 0 where
  -- it has the others in view that the witness has, and was shown the versions of others that the witness remembers
  pub others : c.others ≡ v.view
  -- none of them is in view twice, and each is there at the version last shown
  pub view : IsView v.view
  -- the distances of the view are those of the settings
  pub radius : v.view.radius ≡ f.settings.view_radius
  pub hysteresis : v.view.hysteresis ≡ f.settings.view_hysteresis
  -- the version of its last own line is the one that the witness told last
  pub told : option_map version_in c.own ≡ v.told
  -- that is at most the real's version
  pub not_ahead : (version : ℕ) → v.told ≡ Some version → version ≤ r.version
  -- and where it is the real's version, the own line showed what the real is now, and so where it is
  pub own : (shown : State) → c.own ≡ Some (r.version, shown) → shown ≡ own_now f r
  -- no other was shown at a version above the public version of its real
  pub others_not_ahead : (x j version : ℕ) (q : RealView) → table.get v.view.shown x ≡ Some version →
      real_at x w j ≡ Some q → version ≤ q.public

-- The record of clients between rounds, beside those of reals, of base parts and of copies: the client of each entity e, which shows
-- `clients e`, fits the witness of its real.
pub record ClientsFit (f : Frame) (clients : ℕ → ClientReplica) (w : World) : Type 0 where
  pub each : (e k : ℕ) (r : RealView) → real_at e w k ≡ Some r → (v : WitnessView) → r.witness ≡ Some v →
      FitsWitness f w r v (clients e)
