-- No stray input at a base node: what a world has of all that comes to its base nodes about an entity.
use Rattle.std.specs.Prelude.{◌≡◌, ℕ, ◌+◌, ◌<◌, ◌≤◌, Bool, true, false, List, ◌∷◌, Some, slice_get}
use Rattle.std.specs.List.{AllByRecursion}
use Rattle.std.specs.FinMap as table
use Rattle.seam_node_steps.specs.Prelude.{link, Order, Msg, BaseCall, Current, Update, limit}
use Rattle.seam_node_steps.specs.Prelude.{cell_count, has_ready, about, BaseView, PartView, RouteView, may_show, proxy_is_ready}
use Rattle.seam_node_steps.specs.Prelude.{stray_order, World, Base}
use Rattle.seam_node_steps.specs.BaseCases.{may_execute, is_stray}
use Rattle.seam_law_calls.specs.Frames.{Frame, here_at}
use Rattle.seam_law_calls.specs.Sights.{order_about, entity_flow}
use Rattle.seam_law_calls.specs.BaseMoves.{strays_at, is_stuck}
use Rattle.seam_law_calls.specs.BaseTurns.{HasNoClient}
use Rattle.seam_law_calls.specs.ClientUpdates.{HasClient, HasToldAtMost, HasRoomFor}

-- node k is one of the base nodes
pub record IsBaseNumber (f : Frame) (k : ℕ) : Type 0 where
  pub from : cell_count ≤ k
  pub below : k < cell_count + f.settings.bases

-- a message that cells have a case for; base nodes have one for the others
abbrev pub is_for_cells : Msg → Bool
is_for_cells (BaseCall c) = false
is_for_cells (Current e j g) = false
is_for_cells (Update u) = false
is_for_cells _ = true

-- a message to node k is one for such a node, and a route names a cell, with a generation that is small
pub record IsForNode (f : Frame) (k : ℕ) (m : Msg) : Type 0 where
  pub cells : is_for_cells m ≡ true → k < cell_count
  pub bases : is_for_cells m ≡ false → IsBaseNumber f k
  pub routes : (e j g : ℕ) → m ≡ Current e j g → (j < cell_count) × (g < limit)

-- what a world has of the routes to an entity, and keeps
pub record HasRoutes (f : Frame) (e : ℕ) (w : World) : Type 0 where
  -- each base node has a route
  pub routes : (k : ℕ) → IsBaseNumber f k → (r : RouteView) × (((entity_flow e w).slot k).base.route ≡ Some r)
  -- each message about the entity goes to a node that has a case for it, and routes on their way fit
  pub letters : (a k : ℕ) → AllByRecursion (IsForNode f k) ((entity_flow e w).mail a k)

-- the lines that the entity's client may yet be shown have room: it has no client, or its witness told at most n updates and
-- n has room
pub data LinesHaveRoom (f : Frame) (e ty first n : ℕ) (w : World) : Type 0 where
  no_client : HasNoClient e w → LinesHaveRoom f e ty first n w
  client : HasClient f e ty first w → HasToldAtMost e n w → HasRoomFor e n w → LinesHaveRoom f e ty first n w

-- nothing about the entity is stray at a base node
pub record NothingIsStray (f : Frame) (e : ℕ) (w : World) : Type 0 where
  -- no message that is the first of its link to a base node
  pub letters : (a k : ℕ) (m : Msg) (ms : List Msg) → cell_count ≤ k → (entity_flow e w).mail a k ≡ m ∷ ms →
      strays_at (here_at f k) ((entity_flow e w).slot k).base m ≡ false
  -- no order that is a node's first
  pub orders : (k : ℕ) (o : Order) (os : List Order) → ((entity_flow e w).slot k).base.orders ≡ o ∷ os →
      is_stuck (here_at f k) ((entity_flow e w).slot k).base o ≡ false
  -- a part whose turn it is may execute a call, and its client be shown a line
  pub parts : (k : ℕ) (p : PartView) → ((entity_flow e w).slot k).base.part ≡ Some p → may_execute p ≡ true

-- the same by the tests of base node b, which is node k
pub record NoneIsStray (e : ℕ) (w : World) (k : ℕ) (b : BaseView) : Type 0 where
  -- no message about the entity that is the first of its link
  pub messages : (a : ℕ) (m : Msg) (ms : List Msg) → link w.rows a k ≡ m ∷ ms → about m ≡ Some e → is_stray b m ≡ false
  -- no order about it that is the first
  pub orders : (o : Order) (os : List Order) → b.orders ≡ o ∷ os → order_about o ≡ Some e → stray_order b o ≡ false
  -- its part may execute a call, and its client be shown a line
  pub parts : (p : PartView) → table.get b.parts e ≡ Some p → may_execute p ≡ true

-- no input of a base node is stray, whatever entity it is about
pub record NoneIsStrayAtBases (w : World) : Type 0 where
  -- no message that is the first of its link
  pub messages : (a k : ℕ) (b : BaseView) (m : Msg) (ms : List Msg) → slice_get w.nodes k ≡ Some (Base b) →
      link w.rows a k ≡ m ∷ ms → is_stray b m ≡ false
  -- no order that is the node's first
  pub orders : (k : ℕ) (b : BaseView) (o : Order) (os : List Order) → slice_get w.nodes k ≡ Some (Base b) →
      b.orders ≡ o ∷ os → stray_order b o ≡ false
  -- no call that is ready: its part may execute it
  pub calls : (k : ℕ) (b : BaseView) (e : ℕ) (p : PartView) → slice_get w.nodes k ≡ Some (Base b) →
      table.get b.parts e ≡ Some p → has_ready p.orders ≡ true → may_execute p ≡ true
  -- no update that is ready: its client may be shown it
  pub updates : (k : ℕ) (b : BaseView) (e : ℕ) (p : PartView) → slice_get w.nodes k ≡ Some (Base b) →
      table.get b.parts e ≡ Some p → proxy_is_ready p.proxy ≡ true → may_show p.proxy ≡ true
