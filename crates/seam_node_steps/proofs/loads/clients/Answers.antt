use Rattle.seam_node_steps.proofs.Tables.{computing}
use Rattle.seam_node_steps.proofs.loads.clients.Goals as goal

pub returns-clause-witness : goal.returns-clause-witness
returns-clause-witness c = simp computing

pub returns-clause-proxy : goal.returns-clause-proxy
returns-clause-proxy c = simp computing

pub returns-clause-nothing_to_show : goal.returns-clause-nothing_to_show
returns-clause-nothing_to_show c = simp computing
