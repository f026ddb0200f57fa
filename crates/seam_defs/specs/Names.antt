-- The names by which definitions of entities call flags and parts.
use Rattle.std.specs.Prelude.{ℕ, List, codes}
use Rattle.seam_defs.specs.declared.flags.Flag.{Flag}
use Rattle.seam_defs.specs.declared.flags.Flag.TheVariants as flag
use Rattle.seam_defs.specs.declared.flags.Part.{Part}
use Rattle.seam_defs.specs.declared.flags.Part.TheVariants as part

-- the name of a flag
abbrev pub flag_name : Flag → List ℕ
flag_name flag.Base = codes "BASE"
flag_name flag.BaseAndClient = codes "BASE_AND_CLIENT"
flag_name flag.CellPrivate = codes "CELL_PRIVATE"
flag_name flag.CellPublic = codes "CELL_PUBLIC"
flag_name flag.CellPublicAndOwn = codes "CELL_PUBLIC_AND_OWN"
flag_name flag.OwnClient = codes "OWN_CLIENT"
flag_name flag.OtherClients = codes "OTHER_CLIENTS"
flag_name flag.AllClients = codes "ALL_CLIENTS"

-- the name of a part
abbrev pub part_name : Part → List ℕ
part_name part.Cell = codes "cell"
part_name part.Base = codes "base"
