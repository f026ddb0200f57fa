use Rattle.std.proofs.Common.{refl}
use Rattle.seam_node_steps.proofs.loads.creates.Goals as goal

pub returns-clause-leaf : goal.returns-clause-leaf
returns-clause-leaf c = refl

pub returns-clause-other_cell : goal.returns-clause-other_cell
returns-clause-other_cell c = refl

pub returns-clause-its_base_node : goal.returns-clause-its_base_node
returns-clause-its_base_node c = refl

pub returns-clause-other_base_node : goal.returns-clause-other_base_node
returns-clause-other_base_node c = refl
