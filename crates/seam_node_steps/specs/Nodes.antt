-- Nodes: cells and base nodes, their steps, and a world of them.
use Rattle.std.specs.Prelude.{ℕ, Bool}
use Rattle.seam_machine.specs.Views.{Stepped, NetView}
use Rattle.seam_machine.specs.declared.machines.Input.{Input}
use Rattle.seam_entity.specs.declared.message.Msg.{Msg}
use Rattle.seam_entity.specs.Here.{peers_of}
use Rattle.seam_node_steps.specs.Cells.{CellView, cell_steps, cell_has_work}
use Rattle.seam_node_steps.specs.Bases.{BaseView}
use Rattle.seam_node_steps.specs.BaseCases.{base_steps, base_has_work}

pub data NodeView : Type 0 where
  Cell : CellView → NodeView
  Base : BaseView → NodeView

abbrev pub World : Type 0
World = NetView NodeView Msg

-- what a step leaves and sends
abbrev pub node_steps : NodeView → Input Msg → Stepped NodeView Msg
node_steps (Cell c) i = let t = cell_steps c i in record { state = Cell t.state; sent = t.sent }
node_steps (Base b) i = let t = base_steps b i in record { state = Base t.state; sent = t.sent }

-- the task is there
abbrev pub node_has_work : NodeView → Bool
node_has_work (Cell c) = cell_has_work c
node_has_work (Base b) = base_has_work b

-- how many nodes there are
abbrev pub node_peers : NodeView → ℕ
node_peers (Cell c) = peers_of c.here
node_peers (Base b) = peers_of b.here
