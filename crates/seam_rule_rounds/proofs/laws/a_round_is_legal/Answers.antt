use Rattle.seam_rule_rounds.proofs.TwoChestsLegal.{legal, written}
use Rattle.seam_rule_rounds.proofs.laws.a_round_is_legal.Goals as goal

pub returns-clause-legal : goal.returns-clause-legal
returns-clause-legal c = legal

pub returns-clause-text : goal.returns-clause-text
returns-clause-text c = written
