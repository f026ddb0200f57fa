use Rattle.seam_defs.proofs.GroupsOfGroups.{projected-projected}
use Rattle.seam_defs.proofs.laws.group_of_a_group.Goals as goal

pub returns : goal.returns
returns c = projected-projected
