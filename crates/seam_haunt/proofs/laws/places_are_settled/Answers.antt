use Rattle.seam_haunt.proofs.Settling.{settled_again, after_settled, ghosts_settled}
use Rattle.seam_haunt.proofs.laws.places_are_settled.Goals as goal

pub returns-clause-ghosts : goal.returns-clause-ghosts
returns-clause-ghosts c = ghosts_settled

pub returns-clause-again : goal.returns-clause-again
returns-clause-again c = settled_again

pub returns-clause-after : goal.returns-clause-after
returns-clause-after c = after_settled
