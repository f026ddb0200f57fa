use Rattle.seam_defs.proofs.GroupsOfGroups.{others-see-ghost, other-of-ghost}
use Rattle.seam_defs.proofs.laws.others_see_the_ghost.Goals as goal

pub returns-clause-shown : goal.returns-clause-shown
returns-clause-shown c = others-see-ghost

pub returns-clause-by_ghost : goal.returns-clause-by_ghost
returns-clause-by_ghost c = other-of-ghost
