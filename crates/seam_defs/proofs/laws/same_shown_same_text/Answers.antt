use Rattle.seam_defs.proofs.GroupsOfGroups.{same-text}
use Rattle.seam_defs.proofs.laws.same_shown_same_text.Goals as goal

pub returns : goal.returns
returns c = same-text
