use Rattle.seam_law_calls.proofs.Classify.{node_moves}
use Rattle.seam_law_calls.proofs.moves.a_step_is_a_move.Goals as goal

pub returns : goal.returns
returns c = node_moves
