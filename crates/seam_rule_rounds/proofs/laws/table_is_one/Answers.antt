use Rattle.seam_rule_rounds.proofs.Public.{one_table}
use Rattle.seam_rule_rounds.proofs.laws.table_is_one.Goals as goal

pub returns : goal.returns
returns c = one_table
