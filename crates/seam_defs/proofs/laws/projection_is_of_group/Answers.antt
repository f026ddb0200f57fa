use Rattle.seam_defs.proofs.GroupsOfGroups.{projected_of_group}
use Rattle.seam_defs.proofs.laws.projection_is_of_group.Goals as goal

pub returns : goal.returns
returns c = projected_of_group
