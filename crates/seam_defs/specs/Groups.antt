-- Distribution flags, and the groups of properties that they make.
use Rattle.std.specs.Prelude.{◌≡◌, Bool, true, false}
use Rattle.seam_defs.specs.declared.flags.Flag.{Flag}
use Rattle.seam_defs.specs.declared.flags.Flag.TheVariants as flag
use Rattle.seam_defs.specs.declared.flags.Group.{Group}
use Rattle.seam_defs.specs.declared.flags.Group.TheVariants as group
use Rattle.seam_defs.specs.declared.flags.Part.{Part}
use Rattle.seam_defs.specs.declared.flags.Part.TheVariants as part

-- the flag table: the groups that properties of a flag are in
abbrev pub in_group : Flag → Group → Bool
in_group flag.Base group.Base = true
in_group flag.BaseAndClient group.Base = true
in_group flag.BaseAndClient group.BaseClient = true
in_group flag.CellPrivate group.Real = true
in_group flag.CellPublic group.Real = true
in_group flag.CellPublic group.Ghost = true
in_group flag.CellPublicAndOwn group.Real = true
in_group flag.CellPublicAndOwn group.Ghost = true
in_group flag.CellPublicAndOwn group.Own = true
in_group flag.OwnClient group.Real = true
in_group flag.OwnClient group.Own = true
in_group flag.OtherClients group.Real = true
in_group flag.OtherClients group.Ghost = true
in_group flag.OtherClients group.Other = true
in_group flag.AllClients group.Real = true
in_group flag.AllClients group.Ghost = true
in_group flag.AllClients group.Own = true
in_group flag.AllClients group.Other = true
in_group f g = false

-- the group that a part holds
abbrev pub held_by : Part → Group
held_by part.Cell = group.Real
held_by part.Base = group.Base

-- the group of a part that others may see: a cell part's ghosts, a base part's client
abbrev pub shown_by : Part → Group
shown_by part.Cell = group.Ghost
shown_by part.Base = group.BaseClient

-- what is in one group is in another one too
abbrev pub IsWithin : Group → Group → Type 0
IsWithin inner outer = (f : Flag) → in_group f inner ≡ true → in_group f outer ≡ true
