use Rattle.seam_node_steps.proofs.Tables.{computing}
use Rattle.seam_node_steps.proofs.look_steps.ticks.Goals as goal

pub returns-clause-one_witness : goal.returns-clause-one_witness
returns-clause-one_witness c = simp computing

pub returns-clause-two_witnesses : goal.returns-clause-two_witnesses
returns-clause-two_witnesses c = simp computing
