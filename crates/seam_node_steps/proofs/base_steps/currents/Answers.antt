use Rattle.std.proofs.Common.{refl}
use Rattle.seam_node_steps.proofs.Tables.{computing}
use Rattle.seam_node_steps.proofs.base_steps.currents.Goals as goal

pub returns-clause-greater : goal.returns-clause-greater
returns-clause-greater c = simp computing

pub returns-clause-equal : goal.returns-clause-equal
returns-clause-equal c = simp computing

pub returns-clause-less : goal.returns-clause-less
returns-clause-less c = simp computing

pub returns-clause-no_route : goal.returns-clause-no_route
returns-clause-no_route c = simp computing

pub returns-clause-no_cell : goal.returns-clause-no_cell
returns-clause-no_cell c = simp computing

pub returns-clause-not_for_base_nodes : goal.returns-clause-not_for_base_nodes
returns-clause-not_for_base_nodes c = refl
