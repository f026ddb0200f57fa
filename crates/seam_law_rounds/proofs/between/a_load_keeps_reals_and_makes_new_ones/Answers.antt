use Rattle.seam_law_rounds.proofs.Loaded.{holds_kept, holds_made, holds_none}
use Rattle.seam_law_rounds.proofs.between.a_load_keeps_reals_and_makes_new_ones.Goals as goal

pub returns-clause-kept : goal.returns-clause-kept
returns-clause-kept c = holds_kept

pub returns-clause-made : goal.returns-clause-made
returns-clause-made c = holds_made

pub returns-clause-none : goal.returns-clause-none
returns-clause-none c = holds_none
