use Rattle.seam_rule_rounds.proofs.Lines.{not_exposed, own_base, other_base, own_base_not_exposed}
use Rattle.seam_rule_rounds.proofs.laws.who_may_call.Goals as goal

pub returns-clause-not_exposed : goal.returns-clause-not_exposed
returns-clause-not_exposed c = not_exposed

pub returns-clause-own_base : goal.returns-clause-own_base
returns-clause-own_base c = own_base

pub returns-clause-other_base : goal.returns-clause-other_base
returns-clause-other_base c = other_base

pub returns-clause-own_base_not_exposed : goal.returns-clause-own_base_not_exposed
returns-clause-own_base_not_exposed c = own_base_not_exposed
