-- What others may see of a part is held by it.
use Rattle.std.proofs.Common.{◌≡◌, refl, true}
use Rattle.seam_defs.specs.declared.flags.Flag.TheVariants.{Base, BaseAndClient, CellPrivate, CellPublic, CellPublicAndOwn, OwnClient}
use Rattle.seam_defs.specs.declared.flags.Flag.TheVariants.{OtherClients, AllClients}
use Rattle.seam_defs.specs.declared.flags.Flag.{Flag}
use Rattle.seam_defs.specs.declared.flags.Part.{Part}
use Rattle.seam_defs.specs.declared.flags.Part.TheVariants as part
use Rattle.seam_defs.specs.Groups.{in_group, held_by, IsWithin, shown_by}

shown-held : (f : Flag) (p : Part) → in_group f (shown_by p) ≡ true → in_group f (held_by p) ≡ true
shown-held Base part.Cell h = absurd cc
shown-held BaseAndClient part.Cell h = absurd cc
shown-held CellPrivate part.Cell h = refl
shown-held CellPublic part.Cell h = refl
shown-held CellPublicAndOwn part.Cell h = refl
shown-held OwnClient part.Cell h = refl
shown-held OtherClients part.Cell h = refl
shown-held AllClients part.Cell h = refl
shown-held Base part.Base h = refl
shown-held BaseAndClient part.Base h = refl
shown-held CellPrivate part.Base h = absurd cc
shown-held CellPublic part.Base h = absurd cc
shown-held CellPublicAndOwn part.Base h = absurd cc
shown-held OwnClient part.Base h = absurd cc
shown-held OtherClients part.Base h = absurd cc
shown-held AllClients part.Base h = absurd cc

pub shown-within : (p : Part) → IsWithin (shown_by p) (held_by p)
shown-within p f h = shown-held f p h
