use Rattle.seam_judge_rounds.proofs.Leaves.{left_is, place_left, round_left}
use Rattle.seam_judge_rounds.proofs.laws.legal_rounds_leave_what_they_show.Goals as goal

pub returns-clause-legal : goal.returns-clause-legal
returns-clause-legal c = λ h s t r made few x. round_left h s r t made few x

pub returns-clause-left : goal.returns-clause-left
returns-clause-left c = λ h s t r made few x. left_is h s r t made few x

pub returns-clause-places : goal.returns-clause-places
returns-clause-places c = λ h s t r made few x. place_left h s r t made few x
