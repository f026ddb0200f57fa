use Rattle.seam_node_steps.proofs.Tables.{computing}
use Rattle.seam_node_steps.proofs.cell_steps.survey_tasks.Goals as goal

pub returns-clause-first : goal.returns-clause-first
returns-clause-first c = simp computing

pub returns-clause-haunts_stay : goal.returns-clause-haunts_stay
returns-clause-haunts_stay c = simp computing

pub returns-clause-nothing_to_tell : goal.returns-clause-nothing_to_tell
returns-clause-nothing_to_tell c = simp computing

pub returns-clause-not_here : goal.returns-clause-not_here
returns-clause-not_here c = simp computing

pub returns-clause-drop : goal.returns-clause-drop
returns-clause-drop c = simp computing
