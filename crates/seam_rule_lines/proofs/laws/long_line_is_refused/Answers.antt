use Rattle.seam_rule_lines.proofs.LineLaws.{long_line}
use Rattle.seam_rule_lines.proofs.laws.long_line_is_refused.Goals as goal

pub returns : goal.returns
returns c = long_line
