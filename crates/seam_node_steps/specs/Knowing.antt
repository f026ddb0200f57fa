-- What a cell knows of an entity: its real, or its copy.
use Rattle.std.specs.Prelude.{ℕ, Bool, cond, Option, None, Some, option_map}
use Rattle.std.specs.FinMap as table
use Rattle.seam_ghosts.specs.Book.{copy_in}
use Rattle.seam_call.specs.declared.shown.GhostCopy.{GhostCopy}
use Rattle.seam_entity.specs.Here.{Here}
use Rattle.seam_entity.specs.Reals.{RealView}
use Rattle.seam_node_steps.specs.CellLooks.{other_of_real, other_of_copy}
use Rattle.seam_node_steps.specs.Cells.{CellView, is_another}

-- the first of two, where there is one
abbrev pub or_else : {X : Type 0} → Option X → Option X → Option X
or_else None o = o
or_else (Some x) o = Some x

-- what is known of an entity by its real or, where that is not here, by its copy
abbrev pub known_by : Here → Option RealView → Option GhostCopy → Option GhostCopy
known_by h r c = or_else (option_map (other_of_real h) r) (option_map (other_of_copy h) c)

abbrev pub known_at : CellView → ℕ → Option GhostCopy
known_at c x = known_by c.here (table.get c.reals x) (copy_in (table.get c.ghosts x))

-- of others than e
abbrev pub unless_self : {X : Type 0} → ℕ → ℕ → Option X → Option X
unless_self e x o = cond (is_another e x) o None
