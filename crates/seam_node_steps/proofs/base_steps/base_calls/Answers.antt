use Rattle.seam_node_steps.proofs.Tables.{computing}
use Rattle.seam_node_steps.proofs.base_steps.base_calls.Goals as goal

pub returns-clause-early : goal.returns-clause-early
returns-clause-early c = simp computing

pub returns-clause-first : goal.returns-clause-first
returns-clause-first c = simp computing

pub returns-clause-late : goal.returns-clause-late
returns-clause-late c = simp computing

pub returns-clause-unseen : goal.returns-clause-unseen
returns-clause-unseen c = simp computing

pub returns-clause-without_a_client : goal.returns-clause-without_a_client
returns-clause-without_a_client c = simp computing

pub returns-clause-of_a_cell_part : goal.returns-clause-of_a_cell_part
returns-clause-of_a_cell_part c = simp computing

pub returns-clause-held_already : goal.returns-clause-held_already
returns-clause-held_already c = simp computing

pub returns-clause-no_part : goal.returns-clause-no_part
returns-clause-no_part c = simp computing
