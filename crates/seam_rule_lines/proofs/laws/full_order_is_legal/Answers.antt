use Rattle.seam_rule_lines.proofs.InOrderLemmas.{full_is_legal}
use Rattle.seam_rule_lines.proofs.laws.full_order_is_legal.Goals as goal

pub returns : goal.returns
returns c = full_is_legal
