use Rattle.seam_rule_rounds.proofs.WithoutTick.{told_is_one, replica_is_one}
use Rattle.seam_rule_rounds.proofs.laws.lines_are_one_without_a_tick.Goals as goal

pub returns-clause-told : goal.returns-clause-told
returns-clause-told c = told_is_one

pub returns-clause-replica : goal.returns-clause-replica
returns-clause-replica c = replica_is_one
