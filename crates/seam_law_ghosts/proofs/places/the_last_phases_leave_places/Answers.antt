use Rattle.seam_law_ghosts.proofs.Ends.{reaps_leave, looks_leave}
use Rattle.seam_law_ghosts.proofs.places.the_last_phases_leave_places.Goals as goal

pub returns-clause-reaps : goal.returns-clause-reaps
returns-clause-reaps c = reaps_leave

pub returns-clause-looks : goal.returns-clause-looks
returns-clause-looks c = looks_leave
