use Rattle.seam_law_ghosts.proofs.Prelude.{calls_end_between}
use Rattle.seam_law_ghosts.proofs.Rounding.{calls_end_copied}
use Rattle.seam_law_ghosts.proofs.Ending.{looks_stay}
use Rattle.seam_law_ghosts.proofs.newest.quiet_means_settled.Goals as goal

pub returns-clause-copies : goal.returns-clause-copies
returns-clause-copies c = λ f w b begin copies v es run quiet. (calls_end_copied f w b begin copies v es run quiet).settled

pub returns-clause-routes : goal.returns-clause-routes
returns-clause-routes c = λ f w b begin v es run quiet e k q at.
    ((calls_end_between f w b begin v es run quiet).settled e k q at).routes

pub returns-clause-looks : goal.returns-clause-looks
returns-clause-looks c = looks_stay
