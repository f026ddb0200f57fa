use Rattle.seam_law_ghosts.proofs.Copied.{reaps_copied, looks_copied}
use Rattle.seam_law_ghosts.proofs.newest.no_copy_comes_in_the_last_phases.Goals as goal

pub returns-clause-reaps : goal.returns-clause-reaps
returns-clause-reaps c = reaps_copied

pub returns-clause-looks : goal.returns-clause-looks
returns-clause-looks c = looks_copied
