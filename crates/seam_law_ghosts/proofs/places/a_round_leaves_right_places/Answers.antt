use Rattle.seam_law_ghosts.proofs.PlacesKept.{round_kept, round_made}
use Rattle.seam_law_ghosts.proofs.places.a_round_leaves_right_places.Goals as goal

pub returns-clause-kept : goal.returns-clause-kept
returns-clause-kept c = round_kept

pub returns-clause-made : goal.returns-clause-made
returns-clause-made c = round_made
