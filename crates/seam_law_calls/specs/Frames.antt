-- What all nodes of a world go by in a round.
use Rattle.std.specs.Prelude.{◌≡◌, ℕ, ◌<◌, ◌≤◌, List, [], ◌∷◌, slice_get, Some}
use Rattle.std.specs.List.{AllByRecursion}
use Rattle.seam_machine.specs.Events.{EachLink}
use Rattle.seam_node_steps.specs.Prelude.{Division, cells_of, TypeDef, Settings, EachNode, Here, cell_count, CellView, BaseView, NodeView}
use Rattle.seam_node_steps.specs.Prelude.{World, node_peers, Cell, Base, here_of, IsNode, Msg, BringsNone, TellsNone}
use Rattle.seam_net_runs.specs.Sound.{IsSound}

-- the definitions, the settings, the tree that applies at the round's start, and those that replace it in the round, in their order
pub record Frame : Type 0 where
  pub defs : List TypeDef
  pub settings : Settings
  pub tree : Division
  pub later : List Division

-- the trees of the round: the place of one in this list is its number
abbrev pub trees_of : Frame → List Division
trees_of f = f.tree ∷ f.later

-- no tree replaces the first in the round
abbrev pub HasOneTree : Frame → Type 0
HasOneTree f = f.later ≡ []

-- t is one of the trees
pub record IsTreeOf (f : Frame) (t : Division) : Type 0 where
  pub number : ℕ
  pub is : slice_get (trees_of f) number ≡ Some t

-- what node k knows
abbrev pub here_at : Frame → ℕ → Here
here_at f k = here_of f.defs f.settings k

-- node k knows these definitions and settings, and is a cell or a base node by its number
abbrev pub Knows : List TypeDef → Settings → ℕ → NodeView → Type 0
Knows defs settings k (Cell c) = (k < cell_count) × (c.here ≡ here_of defs settings k)
Knows defs settings k (Base b) = (cell_count ≤ k) × (b.here ≡ here_of defs settings k)

-- node k is a cell, and has one of the frame's trees, which no boundaries replaced
pub record IsCellAt (f : Frame) (k : ℕ) (c : CellView) : Type 0 where
  pub low : k < cell_count
  pub here : c.here ≡ here_at f k
  pub tree : IsTreeOf f c.tree
  pub number : c.number ≡ 0

-- node k is a base node, knows how many cells the trees have, and is to tell no boundaries
pub record IsBaseAt (f : Frame) (k : ℕ) (b : BaseView) : Type 0 where
  pub high : cell_count ≤ k
  pub here : b.here ≡ here_at f k
  pub cells : b.cells ≡ cells_of f.tree
  pub orders : AllByRecursion TellsNone b.orders

abbrev pub IsAt : Frame → ℕ → NodeView → Type 0
IsAt f k (Cell c) = IsCellAt f k c
IsAt f k (Base b) = IsBaseAt f k b

-- no message on a link brings boundaries
abbrev pub BringNone : ℕ → ℕ → List Msg → Type 0
BringNone a k ms = AllByRecursion BringsNone ms

-- a world whose nodes go by the frame: they send to its nodes alone, what is true of every node is true of each, and no boundaries are on
-- their way
pub record IsInFrame (f : Frame) (w : World) : Type 0 where
  pub sound : IsSound node_peers IsNode w
  pub nodes : EachNode (IsAt f) w.nodes
  pub letters : EachLink BringNone w.rows
