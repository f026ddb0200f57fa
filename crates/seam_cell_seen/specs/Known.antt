-- What a cell knows of an entity.
use Rattle.std.specs.Prelude.{ℕ, Option}
use Rattle.std.specs.FinMap as table
use Rattle.seam_node_steps.specs.Prelude.{Ghost, copy_in, GhostCopy, Here, RealView, Map, known_by}

-- what is known of an entity where these reals and ghosts are
abbrev pub known_with : Here → Map RealView → Map (Ghost GhostCopy) → ℕ → Option GhostCopy
known_with h reals ghosts e = known_by h (table.get reals e) (copy_in (table.get ghosts e))
