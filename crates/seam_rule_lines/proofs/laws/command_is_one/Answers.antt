use Rattle.seam_rule_lines.proofs.CommandWords.{command_is_one}
use Rattle.seam_rule_lines.proofs.laws.command_is_one.Goals as goal

pub returns : goal.returns
returns c = command_is_one
