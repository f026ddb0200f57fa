use Rattle.seam_rule_clients.proofs.Wrong.{same_version, too_far, near_enough, older, not_older, not_in_view, in_view_already, itself}
use Rattle.seam_rule_clients.proofs.laws.wrong_lines_may_not_come.Goals as goal

pub returns-clause-same_version : goal.returns-clause-same_version
returns-clause-same_version c = same_version

pub returns-clause-too_far : goal.returns-clause-too_far
returns-clause-too_far c = too_far

pub returns-clause-near : goal.returns-clause-near
returns-clause-near c = near_enough

pub returns-clause-older : goal.returns-clause-older
returns-clause-older c = older

pub returns-clause-not_older : goal.returns-clause-not_older
returns-clause-not_older c = not_older

pub returns-clause-not_in_view : goal.returns-clause-not_in_view
returns-clause-not_in_view c = not_in_view

pub returns-clause-in_view_already : goal.returns-clause-in_view_already
returns-clause-in_view_already c = in_view_already

pub returns-clause-itself : goal.returns-clause-itself
returns-clause-itself c = itself
