use Rattle.seam_rule_clients.proofs.InParts.{lines_in_parts}
use Rattle.seam_rule_clients.proofs.laws.lines_follow_lines.Goals as goal

pub returns : goal.returns
returns c = lines_in_parts
