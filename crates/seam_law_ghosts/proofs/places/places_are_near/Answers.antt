use Rattle.seam_law_ghosts.proofs.NearKnown.{home_is_near, ghost_near, ghost_is_near}
use Rattle.seam_law_ghosts.proofs.places.places_are_near.Goals as goal

pub returns-clause-home : goal.returns-clause-home
returns-clause-home c = home_is_near

pub returns-clause-near : goal.returns-clause-near
returns-clause-near c = ghost_near

pub returns-clause-far : goal.returns-clause-far
returns-clause-far c = ghost_is_near
