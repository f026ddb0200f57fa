-- A real that comes: the step of its slot, what base nodes are told, and which cells its haunts may be.
use Rattle.std.specs.Prelude.{ℕ, Bool, None}
use Rattle.std.specs.FinSet as set
use Rattle.seam_node_steps.specs.Prelude.{Cells, Division, RealView, Msg, Hand, Current, is_cell_if, CellView, Stepped, boundaries_of}
use Rattle.seam_node_steps.specs.Prelude.{slot_of, slot_steps, stepped}

-- the step of its slot, whatever boundaries it brings
abbrev pub arrives : CellView → RealView → Stepped CellView Msg
arrives c r = stepped c r.entity (slot_steps c.here (boundaries_of c) (slot_of c r.entity) (Hand r None))

-- base node b is told that the entity's real is in cell me
abbrev pub current_of : ℕ → ℕ → ℕ → ℕ → ℕ × Msg
current_of e me generation b = (b, Current e me generation)

-- the cell is none of the set, or one of the tree
abbrev pub is_cell_in : Cells → Division → ℕ → Bool
is_cell_in cells t k = is_cell_if (set.contains cells k) t k
