use Rattle.seam_law_rounds.proofs.Looking.{look_keeps, look_makes_none, look_calls_none}
use Rattle.seam_law_rounds.proofs.rounds.looks_keep_reals.Goals as goal

pub returns-clause-counts : goal.returns-clause-counts
returns-clause-counts c = look_keeps

pub returns-clause-none : goal.returns-clause-none
returns-clause-none c = look_makes_none

pub returns-clause-calls : goal.returns-clause-calls
returns-clause-calls c = look_calls_none
