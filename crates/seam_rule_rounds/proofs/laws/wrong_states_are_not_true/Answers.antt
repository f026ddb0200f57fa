use Rattle.seam_rule_rounds.proofs.Edges.{down, up, not_up_before, not_down_after, not_later, not_made}
use Rattle.seam_rule_rounds.proofs.laws.wrong_states_are_not_true.Goals as goal

pub returns-clause-down : goal.returns-clause-down
returns-clause-down c = down

pub returns-clause-up : goal.returns-clause-up
returns-clause-up c = up

pub returns-clause-not_up_before : goal.returns-clause-not_up_before
returns-clause-not_up_before c = not_up_before

pub returns-clause-not_down_after : goal.returns-clause-not_down_after
returns-clause-not_down_after c = not_down_after

pub returns-clause-not_later : goal.returns-clause-not_later
returns-clause-not_later c = not_later

pub returns-clause-not_made : goal.returns-clause-not_made
returns-clause-not_made c = not_made
