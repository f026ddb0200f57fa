-- What is true of a net of machines at every moment, and the laws of a machine that keep it.
use Rattle.std.specs.Prelude.{◌≡◌, ℕ, Bool}
use Rattle.seam_machine.specs.Views.{Stepped, NetView}
use Rattle.seam_machine.specs.Nets.{IsSquare, ArePeers}
use Rattle.seam_machine.specs.Events.{EachNode}
use Rattle.seam_machine.specs.Sends.{AllBelow}
use Rattle.seam_machine.specs.declared.machines.Input.{Input}

-- a machine by its definitions: whether a task is there, how many nodes it knows, what is true of its states, what a step does;
-- a step sends to those nodes alone, and keeps their number and what is true
pub record MachineLaws (N M : Type 0) : Type 1 where
  pub has_work : N → Bool
  pub peer_count : N → ℕ
  pub valid : N → Type 0
  pub steps : N → Input M → Stepped N M
  pub targets : (s : N) (i : Input M) → valid s → AllBelow (peer_count s) (steps s i).sent
  pub keeps_peers : (s : N) (i : Input M) → valid s → peer_count (steps s i).state ≡ peer_count s
  pub stays_valid : (s : N) (i : Input M) → valid s → valid (steps s i).state

-- a link for each pair of nodes, each node sends to the nodes of the net, and what is true of every state is true of each
pub record IsSound {N M : Type 0} (peer_count : N → ℕ) (valid : N → Type 0) (w : NetView N M) : Type 0 where
  pub square : IsSquare w
  pub peers : ArePeers peer_count w
  pub states : EachNode (λ k s. valid s) w.nodes
