use Rattle.std.proofs.Common.{refl}
use Rattle.seam_toml.proofs.Existence.{settings_fault, types_are_there}
use Rattle.seam_toml.proofs.header.header_of.Goals as goal

pub returns-in_default : goal.returns-in_default
returns-in_default c none = let bad = settings_fault _ _ refl c.in_default.ensures in none bad.0 bad.1

pub returns-in-None : goal.returns-in-None
returns-in-None c = types_are_there _ (rw c.in-None.is at c.in_ok-defs.ensures)
