use Rattle.seam_law_verdicts.proofs.Failing.{one_point}
use Rattle.seam_law_verdicts.proofs.laws.a_text_fails_in_one_point.Goals as goal

pub returns : goal.returns
returns c = one_point
