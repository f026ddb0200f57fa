use Rattle.seam_law_rounds.proofs.Unknown.{unknown_in_round, unknown_in_reaps, unknown_in_looks}
use Rattle.seam_law_rounds.proofs.rounds.who_is_not_there_is_unknown.Goals as goal

pub returns-clause-round : goal.returns-clause-round
returns-clause-round c = unknown_in_round

pub returns-clause-reaps : goal.returns-clause-reaps
returns-clause-reaps c = unknown_in_reaps

pub returns-clause-looks : goal.returns-clause-looks
returns-clause-looks c = unknown_in_looks
