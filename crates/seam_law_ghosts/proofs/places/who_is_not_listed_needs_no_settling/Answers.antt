use Rattle.seam_law_ghosts.proofs.Resting.{restful_leads, restful_loaded}
use Rattle.seam_law_ghosts.proofs.places.who_is_not_listed_needs_no_settling.Goals as goal

pub returns-clause-kept : goal.returns-clause-kept
returns-clause-kept c = λ f e ty w v es frame alone known has spared start run.
    restful_leads f alone frame e ty known w v es has spared start run

pub returns-clause-loaded : goal.returns-clause-loaded
returns-clause-loaded c = restful_loaded
