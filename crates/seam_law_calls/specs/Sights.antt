-- A world as one entity sees it: what each node has of the entity, and the messages about it on each link.
use Rattle.std.specs.Prelude.{ℕ, ◌+◌, ◌==◌, Bool, true, if◌then◌else◌, List, [], ◌∷◌, filter, Option, None, Some, unwrap_or}
use Rattle.std.specs.FinMap as table
use Rattle.seam_node_steps.specs.Prelude.{Order, Msg, Slot, about, CellView, slot_of, BaseView, RouteView, PartView, NodeView, World, Cell}
use Rattle.seam_node_steps.specs.Prelude.{Base}
use Rattle.seam_law_flow.specs.Prelude.{Flow, flow_of}
use Rattle.seam_call.specs.declared.order.Order.TheVariants as order

-- ---- what is about the entity

-- a message or an order about no entity, a tick or boundaries, concerns each of them
abbrev pub concerned : ℕ → Option ℕ → Bool
concerned e None = true
concerned e (Some x) = x == e

-- the entity that a message is about, or 0
abbrev pub entity_of : Msg → ℕ
entity_of m = unwrap_or (about m) 0

abbrev pub concerns : ℕ → Msg → Bool
concerns e m = concerned e (about m)

abbrev pub kept_if : {A : Type 0} → Bool → A → Option A
kept_if b a = if b then Some a else None

-- the message, where it concerns the entity
abbrev pub mine : ℕ → Msg → Option Msg
mine e m = kept_if (concerns e m) m

abbrev item_concerns : ℕ → ℕ × Msg → Bool
item_concerns e p = concerns e p.1

-- of the messages sent, those that concern the entity
abbrev pub concerning : ℕ → List (ℕ × Msg) → List (ℕ × Msg)
concerning e sent = filter (item_concerns e) sent

-- the entity that an order is about
abbrev pub order_about : Order → Option ℕ
order_about (order.Cell c) = Some c.entity
order_about (order.Base c) = Some c.entity
order_about (order.Reap e) = Some e
order_about _ = None

abbrev pub order_concerns : ℕ → Order → Bool
order_concerns e o = concerned e (order_about o)

-- of a base node's orders, those that concern the entity
abbrev pub orders_of : ℕ → List Order → List Order
orders_of e os = filter (order_concerns e) os

abbrev pub one_more_if : Bool → ℕ → ℕ
one_more_if b n = if b then n + 1 else n

-- how often the entity is in a list
abbrev pub times : ℕ → List ℕ → ℕ
times e [] = 0
times e (x ∷ xs) = one_more_if (x == e) (times e xs)

-- ---- what a node has of it

-- at a cell: the slot, and how often the entity is in the survey list and in the look list
pub record AtCell : Type 0 where
  pub slot : Slot
  pub survey : ℕ
  pub looks : ℕ

-- at a base node: the orders that concern it, the route to its real, and its base part
pub record AtBase : Type 0 where
  pub orders : List Order
  pub route : Option RouteView
  pub part : Option PartView

pub record Has : Type 0 where
  pub cell : AtCell
  pub base : AtBase

abbrev pub no_cell : AtCell
no_cell = record { slot = record { real = None; next = None; ghost = None }; survey = 0; looks = 0 }

abbrev pub no_base : AtBase
no_base = record { orders = []; route = None; part = None }

abbrev pub has_none : Has
has_none = record { cell = no_cell; base = no_base }

abbrev pub at_cell : ℕ → CellView → AtCell
at_cell e c = record { slot = slot_of c e; survey = times e c.survey; looks = times e c.looks }

abbrev pub at_base : ℕ → BaseView → AtBase
at_base e b = record { orders = orders_of e b.orders; route = table.get b.routes e; part = table.get b.parts e }

-- what a node has of the entity
abbrev pub has_of : ℕ → NodeView → Has
has_of e (Cell c) = record { cell = at_cell e c; base = no_base }
has_of e (Base b) = record { cell = no_cell; base = at_base e b }

-- the world as the entity sees it
abbrev pub entity_flow : ℕ → World → Flow Has Msg
entity_flow e w = flow_of (has_of e) has_none (mine e) w
