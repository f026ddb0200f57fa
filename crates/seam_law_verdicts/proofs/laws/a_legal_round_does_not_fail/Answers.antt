use Rattle.seam_law_verdicts.proofs.Failing.{does_not_fail}
use Rattle.seam_law_verdicts.proofs.laws.a_legal_round_does_not_fail.Goals as goal

pub returns : goal.returns
returns c = does_not_fail
