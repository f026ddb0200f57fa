-- Nodes, messages and orders of a round in which no boundaries come.
use Rattle.std.specs.Prelude.{◌≡◌, Option, None, Some}
use Rattle.std.specs.List.{AllByRecursion}
use Rattle.seam_machine.specs.declared.machines.Input.{Input}
use Rattle.seam_machine.specs.declared.machines.Input.TheVariants.{Task, From}
use Rattle.seam_call.specs.declared.order.Boundaries.{Boundaries}
use Rattle.seam_call.specs.declared.order.Order.{Order}
use Rattle.seam_call.specs.declared.order.Order.TheVariants as order
use Rattle.seam_entity.specs.declared.message.Msg.{Msg}
use Rattle.seam_node_steps.specs.CellCases.{bounds_in}
use Rattle.seam_node_steps.specs.Nodes.{NodeView}
use Rattle.seam_node_steps.specs.Nodes.NodeView.{Cell, Base}

-- a message brings no boundaries
abbrev pub BringsNone : Msg → Type 0
BringsNone m = bounds_in m ≡ None

-- the boundaries that an order is to tell
abbrev pub bounds_ordered : Order → Option Boundaries
bounds_ordered (order.Bounds b) = Some b
bounds_ordered _ = None

abbrev pub TellsNone : Order → Type 0
TellsNone o = bounds_ordered o ≡ None

-- a cell goes by the boundaries of the round's start, a base node is to tell none
abbrev pub IsPlain : NodeView → Type 0
IsPlain (Cell c) = c.number ≡ 0
IsPlain (Base b) = AllByRecursion TellsNone b.orders

abbrev pub IsPlainInput : Input Msg → Type 0
IsPlainInput Task = Unit {0}
IsPlainInput (From a m) = BringsNone m
