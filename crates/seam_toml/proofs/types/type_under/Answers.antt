use Rattle.seam_toml.proofs.AnswerLemmas.{is_table}
use Rattle.seam_toml.proofs.types.type_under.Goals as goal

pub returns-in-Some-clause-defines : goal.returns-in-Some-clause-defines
returns-in-Some-clause-defines c = rw (is_table _ _ c.in-Some.ensures) c.type_of.ensures.defines
