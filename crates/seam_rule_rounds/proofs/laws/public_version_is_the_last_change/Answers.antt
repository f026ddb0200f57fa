use Rattle.seam_rule_rounds.proofs.Public.{public_at_most, public_changed, public_last}
use Rattle.seam_rule_rounds.proofs.laws.public_version_is_the_last_change.Goals as goal

pub returns-clause-at_most : goal.returns-clause-at_most
returns-clause-at_most c = public_at_most

pub returns-clause-changed : goal.returns-clause-changed
returns-clause-changed c = public_changed

pub returns-clause-last : goal.returns-clause-last
returns-clause-last c = public_last
