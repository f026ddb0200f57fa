-- A world in a round in which boundaries move: each node goes by trees of the frame, under their numbers.
use Rattle.std.specs.Prelude.{◌≡◌, ℕ, ◌<◌, ◌≤◌, List, length, slice_get, Some}
use Rattle.std.specs.List.{AllByRecursion}
use Rattle.seam_machine.specs.Events.{EachLink}
use Rattle.seam_node_steps.specs.Prelude.{Boundaries, cells_of, EachNode, cell_count, CellView, BaseView, NodeView, World, node_peers}
use Rattle.seam_node_steps.specs.Prelude.{Cell, Base, IsNode, Msg, Order, boundaries_of, bounds_in, bounds_ordered}
use Rattle.seam_net_runs.specs.Sound.{IsSound}
use Rattle.seam_law_calls.specs.Prelude.{Frame, here_at, trees_of}
use Rattle.seam_law_ghosts.specs.RealPlaces.{IsOfSpace}

-- boundaries of the round: the tree is the frame's tree of that number
abbrev pub AreOfRound : Frame → Boundaries → Type 0
AreOfRound f b = slice_get (trees_of f) b.number ≡ Some b.tree

-- the last ones of the round
pub record AreLast (f : Frame) (b : Boundaries) : Type 0 where
  pub of : AreOfRound f b
  pub number : b.number ≡ length f.later

-- each tree of the round divides the space of the settings
abbrev pub DivideTheSpace : Frame → Type 0
DivideTheSpace f = AllByRecursion (IsOfSpace f.settings) (trees_of f)

-- if a message brings boundaries, they are of the round; so are those that an order tells
abbrev pub BringsOfRound : Frame → Msg → Type 0
BringsOfRound f m = (b : Boundaries) → bounds_in m ≡ Some b → AreOfRound f b

abbrev pub TellsOfRound : Frame → Order → Type 0
TellsOfRound f o = (b : Boundaries) → bounds_ordered o ≡ Some b → AreOfRound f b

-- node k is a cell, and goes by boundaries of the round
pub record IsCellOf (f : Frame) (k : ℕ) (c : CellView) : Type 0 where
  pub low : k < cell_count
  pub here : c.here ≡ here_at f k
  pub bounds : AreOfRound f (boundaries_of c)

-- node k is a base node, knows how many cells each tree has, and is to tell boundaries of the round alone
pub record IsBaseOf (f : Frame) (k : ℕ) (b : BaseView) : Type 0 where
  pub high : cell_count ≤ k
  pub here : b.here ≡ here_at f k
  pub cells : b.cells ≡ cells_of f.tree
  pub orders : AllByRecursion (TellsOfRound f) b.orders

abbrev pub IsNodeOf : Frame → ℕ → NodeView → Type 0
IsNodeOf f k (Cell c) = IsCellOf f k c
IsNodeOf f k (Base b) = IsBaseOf f k b

abbrev pub BringOfRound : Frame → ℕ → ℕ → List Msg → Type 0
BringOfRound f a k ms = AllByRecursion (BringsOfRound f) ms

-- a world whose nodes go by boundaries of the round, as do messages on their way
pub record GoesByRound (f : Frame) (w : World) : Type 0 where
  pub sound : IsSound node_peers IsNode w
  pub nodes : EachNode (IsNodeOf f) w.nodes
  pub letters : EachLink (BringOfRound f) w.rows
