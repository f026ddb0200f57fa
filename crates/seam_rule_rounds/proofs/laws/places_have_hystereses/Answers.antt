use Rattle.seam_rule_rounds.proofs.Edges.{ghost_comes, no_ghost, ghost_stays, ghost_goes}
use Rattle.seam_rule_rounds.proofs.laws.places_have_hystereses.Goals as goal

pub returns-clause-ghost_comes : goal.returns-clause-ghost_comes
returns-clause-ghost_comes c = ghost_comes

pub returns-clause-no_ghost : goal.returns-clause-no_ghost
returns-clause-no_ghost c = no_ghost

pub returns-clause-ghost_stays : goal.returns-clause-ghost_stays
returns-clause-ghost_stays c = ghost_stays

pub returns-clause-ghost_goes : goal.returns-clause-ghost_goes
returns-clause-ghost_goes c = ghost_goes
