use Rattle.seam_rule_lines.proofs.Verdicts.{verdict_is_one_of}
use Rattle.seam_rule_lines.proofs.laws.verdict_is_one.Goals as goal

pub returns : goal.returns
returns c = verdict_is_one_of
