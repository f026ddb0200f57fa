use Rattle.seam_node_steps.proofs.Tables.{computing}
use Rattle.seam_node_steps.proofs.loads.rounds_begin.Goals as goal

pub returns-clause-cell : goal.returns-clause-cell
returns-clause-cell c = simp computing

pub returns-clause-base : goal.returns-clause-base
returns-clause-base c = simp computing
