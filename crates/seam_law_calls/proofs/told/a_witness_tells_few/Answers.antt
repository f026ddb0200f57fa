use Rattle.seam_law_calls.proofs.Telling.{tells_at_most}
use Rattle.seam_law_calls.proofs.told.a_witness_tells_few.Goals as goal

pub returns : goal.returns
returns c = λ f e n w v es frame inside few sees told run. tells_at_most f frame.tree.cells_to e n w v es inside few sees told run
