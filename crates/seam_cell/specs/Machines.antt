-- What a machine has to say of its steps, of a cell: it is said of every node.
use Rattle.std.specs.Prelude.{◌≡◌, ℕ}
use Rattle.seam_node_steps.specs.Prelude.{AllBelow, Input, Msg, peers_of, CellView, cell_steps, Cell, IsCell}
use Rattle.seam_node_steps.proofs.Targets.{node_targets}
use Rattle.seam_node_steps.proofs.Peers.{peers_stay, node_stays_valid}

-- how many nodes there are
abbrev pub cell_peers : CellView → ℕ
cell_peers c = peers_of c.here

pub cell_targets : (c : CellView) (i : Input Msg) → IsCell c → AllBelow (cell_peers c) (cell_steps c i).sent
cell_targets c i is = node_targets (Cell c) i is

pub cell_keeps_peers : (c : CellView) (i : Input Msg) → IsCell c → cell_peers (cell_steps c i).state ≡ cell_peers c
cell_keeps_peers c i is = peers_stay (Cell c) i

pub cell_stays_valid : (c : CellView) (i : Input Msg) → IsCell c → IsCell (cell_steps c i).state
cell_stays_valid c i is = node_stays_valid (Cell c) i is
