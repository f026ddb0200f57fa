-- What every node knows: its number, the definitions and the settings.
use Rattle.std.specs.Prelude.{ℕ, ◌+◌, ◌%◌, List}
use Rattle.std.specs.List.{range_with_len}
use Rattle.seam_defs.specs.declared.types.TypeDef.{TypeDef}
use Rattle.seam_defs.specs.declared.types.Property.{Property}
use Rattle.seam_defs.specs.declared.settings.Settings.{Settings}
use Rattle.seam_defs.specs.Types.{type_of}

pub record Here : Type 0 where
  pub me : ℕ
  pub defs : List TypeDef
  pub settings : Settings

-- how many nodes may be cells: these are the first nodes, whether the tree has so many cells or not
abbrev pub cell_count : ℕ
cell_count = 16

abbrev pub cell_numbers : List ℕ
cell_numbers = range_with_len 0 cell_count

-- the base nodes come after them
abbrev pub base_numbers : Here → List ℕ
base_numbers h = range_with_len cell_count h.settings.bases

-- how many nodes there are
abbrev pub peers_of : Here → ℕ
peers_of h = cell_count + h.settings.bases

-- the base node of an entity
abbrev pub base_of : Here → ℕ → ℕ
base_of h e = cell_count + (e % h.settings.bases)

-- the type of a number, and its properties
abbrev pub type_at : Here → ℕ → TypeDef
type_at h ty = type_of h.defs ty

abbrev pub properties : Here → ℕ → List Property
properties h ty = (type_at h ty).properties
