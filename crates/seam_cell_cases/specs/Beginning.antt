-- Reals where a round is loaded.
use Rattle.std.specs.Prelude.{ℕ, option_map}
use Rattle.std.specs.FinMap as table
use Rattle.seam_node_steps.specs.Maps.{Map, set_at}

-- the map with what is there at the number, if anything is, changed
abbrev pub changed_at : {X : Type 0} → (X → X) → Map X → ℕ → Map X
changed_at f m e = set_at m e (option_map f (table.get m e))
