use Rattle.seam_law_ghosts.proofs.Running.{told_of}
use Rattle.seam_law_ghosts.proofs.Rounding.{told_each, lost_then}
use Rattle.seam_law_ghosts.proofs.Ending.{looks_told}
use Rattle.seam_law_ghosts.proofs.newest.each_cell_is_told_what_the_real_wants.Goals as goal

pub returns-clause-flow : goal.returns-clause-flow
returns-clause-flow c = λ f e ty w v es frame known h spared low still home at copies run.
    told_of f frame e ty known w h spared low still home at copies v es run

pub returns-clause-round : goal.returns-clause-round
returns-clause-round c = told_each

pub returns-clause-others : goal.returns-clause-others
returns-clause-others c = lost_then

pub returns-clause-looks : goal.returns-clause-looks
returns-clause-looks c = looks_told
