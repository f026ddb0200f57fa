use Rattle.seam_node_steps.proofs.Tables.{computing}
use Rattle.seam_node_steps.proofs.cell_steps.hand_overs.Goals as goal

pub returns-clause-comes_back : goal.returns-clause-comes_back
returns-clause-comes_back c = simp computing

pub returns-clause-greater_beat_stays : goal.returns-clause-greater_beat_stays
returns-clause-greater_beat_stays c = simp computing

pub returns-clause-real_is_here : goal.returns-clause-real_is_here
returns-clause-real_is_here c = simp computing

pub returns-clause-cell_outside_tree : goal.returns-clause-cell_outside_tree
returns-clause-cell_outside_tree c = simp computing

pub returns-clause-haunt_outside_tree : goal.returns-clause-haunt_outside_tree
returns-clause-haunt_outside_tree c = simp computing

pub returns-clause-outside_space : goal.returns-clause-outside_space
returns-clause-outside_space c = simp computing
