use Rattle.seam_tree.proofs.Sets.{marked_none}
use Rattle.seam_tree.proofs.cell_set.CellSet.none.Goals as goal

pub returns : goal.returns
returns c = marked_none
