use Rattle.seam_toml.proofs.AnswerLemmas.{is_table}
use Rattle.seam_toml.proofs.bodies.is_bad_type.Goals as goal

pub returns-in-Type-Some : goal.returns-in-Type-Some
returns-in-Type-Some c = rw (is_table _ _ c.in-Type-Some.ensures, c.in-Type-Some.is-0) c.has_bad_bodies.ensures
