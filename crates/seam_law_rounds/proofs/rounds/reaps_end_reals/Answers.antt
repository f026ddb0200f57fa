use Rattle.seam_law_rounds.proofs.Reaping.{reap_counts, others_stay, none_come, all_reaped}
use Rattle.seam_law_rounds.proofs.rounds.reaps_end_reals.Goals as goal

pub returns-clause-counts : goal.returns-clause-counts
returns-clause-counts c = reap_counts

pub returns-clause-others : goal.returns-clause-others
returns-clause-others c = others_stay

pub returns-clause-none : goal.returns-clause-none
returns-clause-none c = none_come

pub returns-clause-ended : goal.returns-clause-ended
returns-clause-ended c = all_reaped
