use Rattle.seam_law_ghosts.proofs.Ends.{right_loaded, right_kept, right_made}
use Rattle.seam_law_ghosts.proofs.places.places_are_right.Goals as goal

pub returns-clause-loaded : goal.returns-clause-loaded
returns-clause-loaded c = right_loaded

pub returns-clause-kept : goal.returns-clause-kept
returns-clause-kept c = right_kept

pub returns-clause-made : goal.returns-clause-made
returns-clause-made c = right_made
