use Rattle.seam_toml.proofs.AnswerLemmas.{is_table}
use Rattle.seam_toml.proofs.properties.property.Goals as goal

pub returns-in-Some : goal.returns-in-Some
returns-in-Some c = rw (is_table _ _ c.in-Some.ensures) c.property_of.ensures
