use Rattle.seam_rule_lines.proofs.LineLaws.{unknown_command}
use Rattle.seam_rule_lines.proofs.laws.unknown_command_is_refused.Goals as goal

pub returns : goal.returns
returns c = unknown_command
