use Rattle.seam_law_ghosts.proofs.Along.{placed_leads}
use Rattle.seam_law_ghosts.proofs.Ends.{placed_loaded}
use Rattle.seam_law_ghosts.proofs.places.places_are_on_their_way.Goals as goal

pub returns-clause-way : goal.returns-clause-way
returns-clause-way c = λ f e ty w v es frame alone known fits spared home r one due run.
    placed_leads f alone home r frame e ty known w v es fits spared one due run

pub returns-clause-loaded : goal.returns-clause-loaded
returns-clause-loaded c = placed_loaded
