-- An entity that is not there: nothing about it is due or on its way but ticks, which concern each entity.
use Rattle.std.specs.Prelude.{◌≡◌, ℕ, ◌<◌, ◌≤◌, false, Some, None}
use Rattle.std.specs.List.{AllByRecursion}
use Rattle.seam_node_steps.specs.Prelude.{cells_of, Order, Msg, Tick, cell_count, has_ready, PartView, proxy_is_ready, World}
use Rattle.seam_call.specs.declared.order.Order.TheVariants as order
use Rattle.seam_law_calls.specs.Frames.{Frame, IsInFrame}
use Rattle.seam_law_calls.specs.Sights.{Has, entity_flow}
use Rattle.seam_law_calls.specs.Ones.{real_in}

-- the order is a tick
abbrev pub IsTickOrder : Order → Type 0
IsTickOrder order.Tick = Unit {0}
IsTickOrder _ = ⊥

-- the message to node k is a tick, and the node a cell
abbrev pub IsTickTo : ℕ → Msg → Type 0
IsTickTo k Tick = k < cell_count
IsTickTo k _ = ⊥

-- a node has no real of the entity, no order about it but ticks, and no part of it that has something to do
pub record OnlyTicks (h : Has) : Type 0 where
  pub real : real_in h ≡ None
  pub orders : AllByRecursion IsTickOrder h.base.orders
  -- no call of a part is ready
  pub calls : (p : PartView) → h.base.part ≡ Some p → has_ready p.orders ≡ false
  -- nor an update of its client
  pub updates : (p : PartView) → h.base.part ≡ Some p → proxy_is_ready p.proxy ≡ false

-- an entity of which nothing is due or on its way but ticks, and these go to cells
pub record IsUnknown (f : Frame) (e : ℕ) (w : World) : Type 0 where
  -- the nodes go by the frame, whose cells are among those that there are
  pub frame : IsInFrame f w
  pub cells : cells_of f.tree ≤ cell_count
  -- no node has anything of it to work on
  pub slots : (k : ℕ) → OnlyTicks ((entity_flow e w).slot k)
  -- and nothing about it comes
  pub letters : (a k : ℕ) → AllByRecursion (IsTickTo k) ((entity_flow e w).mail a k)
