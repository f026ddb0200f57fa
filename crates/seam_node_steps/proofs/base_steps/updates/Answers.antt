use Rattle.seam_node_steps.proofs.Tables.{computing}
use Rattle.seam_node_steps.proofs.base_steps.updates.Goals as goal

pub returns-clause-early : goal.returns-clause-early
returns-clause-early c = simp computing

pub returns-clause-first : goal.returns-clause-first
returns-clause-first c = simp computing

pub returns-clause-late : goal.returns-clause-late
returns-clause-late c = simp computing

pub returns-clause-without_a_proxy : goal.returns-clause-without_a_proxy
returns-clause-without_a_proxy c = simp computing
