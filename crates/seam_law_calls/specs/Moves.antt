-- What a node may do with one entity.
use Rattle.std.specs.Prelude.{◌≡◌, ℕ, ◌<◌, ◌≤◌, List, Option}
use Rattle.seam_node_steps.specs.Prelude.{Division, cells_of, items_to, Msg, cell_count}
use Rattle.seam_law_calls.specs.Frames.{Frame, IsTreeOf, here_at}
use Rattle.seam_law_calls.specs.Sights.{Has}
use Rattle.seam_law_calls.specs.CellMoves.{CellMoves}
use Rattle.seam_law_calls.specs.BaseMoves.{BaseMoves}

-- node k, which has s of entity e, is fed i, has t afterwards and sends this about e; a cell goes by one of the frame's trees
pub data Moves (f : Frame) (e k : ℕ) (s : Has) (i : Option Msg) (t : Has) (sent : List (ℕ × Msg)) : Type 0 where
  at_a_cell : (tree : Division) → IsTreeOf f tree → k < cell_count → CellMoves (here_at f k) tree e s.cell i t.cell sent
      → t.base ≡ s.base → Moves f e k s i t sent
  at_a_base : cell_count ≤ k → BaseMoves (here_at f k) (cells_of f.tree) e s.base i t.base sent → t.cell ≡ s.cell → Moves f e k s i t sent

-- the same, by what goes to each node
pub record MovesTo (f : Frame) (e k : ℕ) (s : Has) (i : Option Msg) (t : Has) (out : ℕ → List Msg) : Type 0 where
  pub sent : List (ℕ × Msg)
  pub moves : Moves f e k s i t sent
  pub items : (j : ℕ) → out j ≡ items_to j sent
