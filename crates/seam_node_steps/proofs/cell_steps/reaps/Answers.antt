use Rattle.seam_node_steps.proofs.Tables.{computing}
use Rattle.seam_node_steps.proofs.cell_steps.reaps.Goals as goal

pub returns-clause-reaped : goal.returns-clause-reaped
returns-clause-reaped c = simp computing

pub returns-clause-next_place_alone : goal.returns-clause-next_place_alone
returns-clause-next_place_alone c = simp computing
