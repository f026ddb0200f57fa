use Rattle.seam_law_ghosts.proofs.Ending.{reaps_told, reaps_forgotten, reaped_have_none, others_copied}
use Rattle.seam_law_ghosts.proofs.newest.no_cell_keeps_a_copy_of_the_reaped.Goals as goal

pub returns-clause-told : goal.returns-clause-told
returns-clause-told c = reaps_told

pub returns-clause-forgotten : goal.returns-clause-forgotten
returns-clause-forgotten c = reaps_forgotten

pub returns-clause-none : goal.returns-clause-none
returns-clause-none c = reaped_have_none

pub returns-clause-others : goal.returns-clause-others
returns-clause-others c = others_copied
