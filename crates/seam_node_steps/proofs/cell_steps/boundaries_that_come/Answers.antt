use Rattle.std.proofs.Common.{refl}
use Rattle.seam_node_steps.proofs.Tables.{computing}
use Rattle.seam_node_steps.proofs.cell_steps.boundaries_that_come.Goals as goal

pub returns-clause-newer : goal.returns-clause-newer
returns-clause-newer c = simp computing

pub returns-clause-older : goal.returns-clause-older
returns-clause-older c = refl

pub returns-clause-the_same : goal.returns-clause-the_same
returns-clause-the_same c = refl

pub returns-clause-of_another_space : goal.returns-clause-of_another_space
returns-clause-of_another_space c = refl

pub returns-clause-hand_newer : goal.returns-clause-hand_newer
returns-clause-hand_newer c = simp computing

pub returns-clause-hand_older : goal.returns-clause-hand_older
returns-clause-hand_older c = simp computing
