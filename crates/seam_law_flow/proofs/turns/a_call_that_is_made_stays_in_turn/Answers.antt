use Rattle.seam_law_flow.proofs.Issuing.{issue_goes}
use Rattle.seam_law_flow.proofs.turns.a_call_that_is_made_stays_in_turn.Goals as goal

pub returns : goal.returns
returns g c = λ first batch u w v x few h. issue_goes first batch u x few h
