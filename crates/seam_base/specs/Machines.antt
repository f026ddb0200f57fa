-- What a machine has to say of its steps, of a base node: it is said of every node.
use Rattle.std.specs.Prelude.{◌≡◌, ℕ}
use Rattle.seam_node_steps.specs.Prelude.{AllBelow, Input, Msg, peers_of, BaseView, base_steps, Base, IsBase}
use Rattle.seam_node_steps.proofs.Targets.{node_targets}
use Rattle.seam_node_steps.proofs.Peers.{peers_stay, node_stays_valid}

-- how many nodes there are
abbrev pub base_peers : BaseView → ℕ
base_peers b = peers_of b.here

pub base_targets : (b : BaseView) (i : Input Msg) → IsBase b → AllBelow (base_peers b) (base_steps b i).sent
base_targets b i is = node_targets (Base b) i is

pub base_keeps_peers : (b : BaseView) (i : Input Msg) → IsBase b → base_peers (base_steps b i).state ≡ base_peers b
base_keeps_peers b i is = peers_stay (Base b) i

pub base_stays_valid : (b : BaseView) (i : Input Msg) → IsBase b → IsBase (base_steps b i).state
base_stays_valid b i is = node_stays_valid (Base b) i is
