use Rattle.seam_law_flow.proofs.Ends.{loaded_in_turn}
use Rattle.seam_law_flow.proofs.turns.a_round_begins_in_turn.Goals as goal

pub returns : goal.returns
returns g c = λ first batch w home k l. loaded_in_turn first batch w home k l
