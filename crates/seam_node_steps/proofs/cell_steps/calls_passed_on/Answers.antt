use Rattle.seam_node_steps.proofs.Tables.{computing}
use Rattle.seam_node_steps.proofs.cell_steps.calls_passed_on.Goals as goal

pub returns-clause-passed : goal.returns-clause-passed
returns-clause-passed c = simp computing

pub returns-clause-of_any_part : goal.returns-clause-of_any_part
returns-clause-of_any_part c = simp computing

pub returns-clause-neither : goal.returns-clause-neither
returns-clause-neither c = simp computing
