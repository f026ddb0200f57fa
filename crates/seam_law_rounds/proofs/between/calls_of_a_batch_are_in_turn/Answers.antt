use Rattle.seam_law_rounds.proofs.Turns.{are_calls, calls_in_turn}
use Rattle.seam_law_rounds.proofs.between.calls_of_a_batch_are_in_turn.Goals as goal

pub returns-clause-ours : goal.returns-clause-ours
returns-clause-ours c = are_calls

pub returns-clause-turns : goal.returns-clause-turns
returns-clause-turns c = calls_in_turn
