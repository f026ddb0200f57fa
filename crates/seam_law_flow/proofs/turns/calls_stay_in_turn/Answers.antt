use Rattle.seam_law_flow.proofs.Steps.{turns_go}
use Rattle.seam_law_flow.proofs.turns.calls_stay_in_turn.Goals as goal

pub returns : goal.returns
returns g c = λ first batch w v g h. turns_go first batch w v g h
