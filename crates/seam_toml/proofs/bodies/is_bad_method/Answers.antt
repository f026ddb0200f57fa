use Rattle.seam_toml.proofs.AnswerLemmas.{is_table}
use Rattle.seam_toml.proofs.bodies.is_bad_method.Goals as goal

pub returns-in-Some : goal.returns-in-Some
returns-in-Some c = rw (is_table _ _ c.in-Some.ensures) c.has_bad_body.ensures
