use Rattle.seam_law_ghosts.proofs.NearKnown.{known_within}
use Rattle.seam_law_ghosts.proofs.places.who_may_be_seen_is_known.Goals as goal

pub returns : goal.returns
returns c = known_within c.triangle_inequality.ensures.over
