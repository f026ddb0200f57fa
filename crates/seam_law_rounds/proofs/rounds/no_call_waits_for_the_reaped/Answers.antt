use Rattle.seam_law_rounds.proofs.Reaping.{no_calls}
use Rattle.seam_law_rounds.proofs.rounds.no_call_waits_for_the_reaped.Goals as goal

pub returns : goal.returns
returns c = no_calls
