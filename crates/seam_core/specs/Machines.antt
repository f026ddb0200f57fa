-- What a machine has to say of its steps: it is said of every node.
use Rattle.std.specs.Prelude.{◌≡◌}
use Rattle.seam_node_steps.specs.Prelude.{AllBelow, Input, Msg, NodeView, node_steps, node_peers, IsNode}
use Rattle.seam_node_steps.proofs.Targets.{node_targets}
use Rattle.seam_node_steps.proofs.Peers.{peers_stay, node_stays_valid}

pub targets : (s : NodeView) (i : Input Msg) → IsNode s → AllBelow (node_peers s) (node_steps s i).sent
targets = node_targets

pub keeps_peers : (s : NodeView) (i : Input Msg) → IsNode s → node_peers (node_steps s i).state ≡ node_peers s
keeps_peers s i is = peers_stay s i

pub stays_valid : (s : NodeView) (i : Input Msg) → IsNode s → IsNode (node_steps s i).state
stays_valid = node_stays_valid
