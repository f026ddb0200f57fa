use Rattle.seam_law_rounds.proofs.Going.{keeps_one, keeps_leading}
use Rattle.seam_law_rounds.proofs.between.an_entity_keeps_one_real.Goals as goal

pub returns-clause-one : goal.returns-clause-one
returns-clause-one c = keeps_one

pub returns-clause-lead : goal.returns-clause-lead
returns-clause-lead c = keeps_leading
