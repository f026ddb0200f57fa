use Rattle.seam_rule_clients.proofs.Older.{lines_never_fall, own_never_falls}
use Rattle.seam_rule_clients.proofs.laws.no_line_is_older.Goals as goal

pub returns-clause-others : goal.returns-clause-others
returns-clause-others c = lines_never_fall

pub returns-clause-own : goal.returns-clause-own
returns-clause-own c = λ me r xs may v s was. own_never_falls me r xs v s may was
