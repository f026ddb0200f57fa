-- A node as contracts see it.
use Rattle.std.specs.Prelude.{Option, None, Some}
use Rattle.seam_node_steps.specs.Prelude.{Here, CellView, BaseView, NodeView, Cell, Base}
use Rattle.seam_core.specs.declared.node.Kind.{Kind}
use Rattle.seam_core.specs.declared.node.Kind.TheVariants as kind

-- the cell or the base node that it is
abbrev pub node_of : Kind → NodeView
node_of (kind.Cell c) = Cell c
node_of (kind.Base b) = Base b

-- the cell or the base node that a node is
abbrev pub cell_in : NodeView → Option CellView
cell_in (Cell c) = Some c
cell_in (Base b) = None

abbrev pub base_in : NodeView → Option BaseView
base_in (Cell c) = None
base_in (Base b) = Some b

-- what the node knows
abbrev pub here_in : NodeView → Here
here_in (Cell c) = c.here
here_in (Base b) = b.here
