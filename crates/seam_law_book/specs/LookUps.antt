-- What a node of a world has of an entity, looked up in its tables; nothing where there is no such node.
use Rattle.std.specs.Prelude.{ℕ, Option, None, Some}
use Rattle.std.specs.FinMap as table
use Rattle.seam_node_steps.specs.Prelude.{copy_in, GhostCopy, RealView, PartView, NodeView, Cell, Base}

-- the entity's real, in a cell
abbrev pub real_here : ℕ → Option NodeView → Option RealView
real_here e (Some (Cell c)) = table.get c.reals e
real_here e other = None

-- the copy that a cell has of it
abbrev pub copy_here : ℕ → Option NodeView → Option GhostCopy
copy_here e (Some (Cell c)) = copy_in (table.get c.ghosts e)
copy_here e other = None

-- its base part, at a base node
abbrev pub part_here : ℕ → Option NodeView → Option PartView
part_here e (Some (Base b)) = table.get b.parts e
part_here e other = None
