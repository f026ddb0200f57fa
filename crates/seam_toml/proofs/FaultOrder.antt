-- The list of all faults in the order in which they are sought.
use Rattle.std.proofs.Common.{List, [], ◌∷◌}
use Rattle.seam_toml.specs.declared.faults.Fault.{Fault}
use Rattle.seam_toml.specs.declared.faults.Fault.TheVariants.{NoSuchKey, BadType, BadFlag, BadDefault, BadBody, TooManyNames, GhostTooNear}

abbrev pub in_order : List Fault
in_order = NoSuchKey ∷ BadType ∷ BadFlag ∷ BadDefault ∷ BadBody ∷ TooManyNames ∷ GhostTooNear ∷ []
