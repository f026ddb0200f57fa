-- What is true of every node.
use Rattle.std.specs.Prelude.{◌≡◌, ℕ, ◌<◌, ◌≤◌, Some}
use Rattle.std.specs.FinMap as table
use Rattle.seam_tree.specs.Division.{cells_of}
use Rattle.seam_entity.specs.Reals.{RealView}
use Rattle.seam_node_steps.specs.Maps.{Map}
use Rattle.seam_entity.specs.Here.{cell_count}
use Rattle.seam_node_steps.specs.Slots.{NextPlace}
use Rattle.seam_node_steps.specs.Cells.{CellView}
use Rattle.seam_node_steps.specs.Bases.{BaseView, RouteView}
use Rattle.seam_node_steps.specs.Nodes.{NodeView}
use Rattle.seam_node_steps.specs.Nodes.NodeView.{Cell, Base}

abbrev pub NextsAreCells : Map NextPlace → Type 0
NextsAreCells m = (e : ℕ) (n : NextPlace) → table.get m e ≡ Some n → n.cell < cell_count

abbrev pub RoutesAreCells : Map RouteView → Type 0
RoutesAreCells m = (e : ℕ) (r : RouteView) → table.get m e ≡ Some r → r.cell < cell_count

-- each real is kept under its entity's number
abbrev pub AreUnderTheirEntities : Map RealView → Type 0
AreUnderTheirEntities m = (e : ℕ) (r : RealView) → table.get m e ≡ Some r → r.entity ≡ e

-- a cell's number is one of a cell, there is a base node, its tree has at most as many cells as there may be, next places are cells, and
-- reals are under their entities' numbers
pub record IsCell (c : CellView) : Type 0 where
  pub me_in : c.here.me < cell_count
  pub bases : 1 ≤ c.here.settings.bases
  pub cells : cells_of c.tree ≤ cell_count
  pub nexts : NextsAreCells c.nexts
  pub keys : AreUnderTheirEntities c.reals

-- there is a base node, the tree has at most so many cells, and routes go to cells
pub record IsBase (b : BaseView) : Type 0 where
  pub bases : 1 ≤ b.here.settings.bases
  pub cells : b.cells ≤ cell_count
  pub routes : RoutesAreCells b.routes

abbrev pub IsNode : NodeView → Type 0
IsNode (Cell c) = IsCell c
IsNode (Base b) = IsBase b
