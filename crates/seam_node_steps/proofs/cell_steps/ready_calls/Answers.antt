use Rattle.seam_node_steps.proofs.Tables.{computing}
use Rattle.seam_node_steps.proofs.cell_steps.ready_calls.Goals as goal

pub returns-clause-least_sender : goal.returns-clause-least_sender
returns-clause-least_sender c = simp computing

pub returns-clause-told : goal.returns-clause-told
returns-clause-told c = simp computing

pub returns-clause-least_entity : goal.returns-clause-least_entity
returns-clause-least_entity c = simp computing

pub returns-clause-survey_first : goal.returns-clause-survey_first
returns-clause-survey_first c = simp computing
