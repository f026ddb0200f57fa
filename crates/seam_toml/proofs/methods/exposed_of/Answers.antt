use Rattle.std.proofs.Common.{◌∙◌, ap}
use Rattle.seam_toml.specs.Definitions.{exposed_or_not}
use Rattle.seam_toml.proofs.methods.exposed_of.Goals as goal

pub returns-in-Some : goal.returns-in-Some
returns-in-Some c = c.as_bool.ensures ∙ ap exposed_or_not c.in-Some.ensures

pub returns-in-None : goal.returns-in-None
returns-in-None c = ap exposed_or_not c.in-None.ensures
