use Rattle.seam_law_verdicts.proofs.OneVerdict.{one_verdict}
use Rattle.seam_law_verdicts.proofs.laws.a_text_has_one_verdict.Goals as goal

pub returns : goal.returns
returns c = one_verdict
