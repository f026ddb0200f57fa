-- What the load of a batch makes of each node before the orders are given.
use Rattle.std.specs.Prelude.{◌≡◌, ℕ, ◌≤◌}
use Rattle.seam_node_steps.specs.Prelude.{Batch, NodeView, Cell, Base, cell_round}
use Rattle.seam_law_rounds.specs.Prelude.{made}
use Rattle.seam_core.specs.Loads.{CanBegin, IsNumbered}

-- a node that began the batch's round
abbrev pub begun : Batch → NodeView → NodeView
begun b s = cell_round b.tree (made b s)

-- a cell's space is that of its settings, of this size
abbrev pub HasSpace : ℕ → NodeView → Type 0
HasSpace size (Cell c) = (c.tree.size ≡ size) × (c.here.settings.size ≡ size)
HasSpace size (Base b) = Unit {0}

-- node k is a cell, which so many cells are without
abbrev pub IsSpare : ℕ → ℕ → NodeView → Type 0
IsSpare cells k (Cell c) = cells ≤ k
IsSpare cells k (Base b) = ⊥

-- what is asked of node k
pub record NodeMayBegin (b : Batch) (k : ℕ) (s : NodeView) : Type 0 where
  pub numbered : IsNumbered k s
  pub space : HasSpace b.tree.size s
  pub can : CanBegin b s
