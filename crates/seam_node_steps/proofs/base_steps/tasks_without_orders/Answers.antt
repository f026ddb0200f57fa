use Rattle.seam_node_steps.proofs.Tables.{computing}
use Rattle.seam_node_steps.proofs.base_steps.tasks_without_orders.Goals as goal

pub returns-clause-ready_call : goal.returns-clause-ready_call
returns-clause-ready_call c = simp computing

pub returns-clause-call_before_update : goal.returns-clause-call_before_update
returns-clause-call_before_update c = simp computing

pub returns-clause-ready_update : goal.returns-clause-ready_update
returns-clause-ready_update c = simp computing

pub returns-clause-least_part : goal.returns-clause-least_part
returns-clause-least_part c = simp computing

pub returns-clause-least_sender : goal.returns-clause-least_sender
returns-clause-least_sender c = simp computing
