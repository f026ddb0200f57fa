use Rattle.seam_law_calls.proofs.Silent.{tells_none}
use Rattle.seam_law_calls.proofs.told.nothing_is_told_without_looks.Goals as goal

pub returns : goal.returns
returns c = λ f e w v es frame inside left none run. tells_none f frame.tree.cells_to e w v es inside left none run
