use Rattle.seam_law_rounds.proofs.PartsGoing.{update_finds_it}
use Rattle.seam_law_rounds.proofs.Calms.{look_finds, reaps_tell_none}
use Rattle.seam_law_rounds.proofs.base_parts.an_update_finds_its_client.Goals as goal

pub returns-clause-round : goal.returns-clause-round
returns-clause-round c = update_finds_it

pub returns-clause-looks : goal.returns-clause-looks
returns-clause-looks c = λ f u between parts small vs v run e k r here. look_finds f u between parts small vs v run e k r here

pub returns-clause-reaps : goal.returns-clause-reaps
returns-clause-reaps c = reaps_tell_none
