use Rattle.seam_law_calls.proofs.Classify.{event_moves, frame_happens}
use Rattle.seam_law_calls.proofs.moves.an_event_is_a_move.Goals as goal

pub returns-clause-moves : goal.returns-clause-moves
returns-clause-moves c = event_moves

pub returns-clause-framed : goal.returns-clause-framed
returns-clause-framed c = frame_happens
