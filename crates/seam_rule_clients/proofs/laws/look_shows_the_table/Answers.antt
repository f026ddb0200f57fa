use Rattle.seam_rule_clients.proofs.Table.{shows_table}
use Rattle.seam_rule_clients.proofs.laws.look_shows_the_table.Goals as goal

pub returns : goal.returns
returns c = shows_table
