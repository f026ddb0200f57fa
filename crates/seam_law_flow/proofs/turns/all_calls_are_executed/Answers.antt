use Rattle.seam_law_flow.proofs.Ends.{all_done}
use Rattle.seam_law_flow.proofs.turns.all_calls_are_executed.Goals as goal

pub returns : goal.returns
returns g c = λ first batch w p d h still. all_done first batch w still p d h
