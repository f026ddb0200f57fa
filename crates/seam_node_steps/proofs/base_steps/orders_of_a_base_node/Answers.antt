use Rattle.std.proofs.Common.{refl}
use Rattle.seam_node_steps.proofs.Tables.{computing}
use Rattle.seam_node_steps.proofs.base_steps.orders_of_a_base_node.Goals as goal

pub returns-clause-cell : goal.returns-clause-cell
returns-clause-cell c = simp computing

pub returns-clause-base_elsewhere : goal.returns-clause-base_elsewhere
returns-clause-base_elsewhere c = refl

pub returns-clause-base_here : goal.returns-clause-base_here
returns-clause-base_here c = simp computing

pub returns-clause-tick : goal.returns-clause-tick
returns-clause-tick c = refl

pub returns-clause-bounds : goal.returns-clause-bounds
returns-clause-bounds c = refl

pub returns-clause-reap : goal.returns-clause-reap
returns-clause-reap c = simp computing

pub returns-clause-reap_without_a_route : goal.returns-clause-reap_without_a_route
returns-clause-reap_without_a_route c = simp computing

pub returns-clause-stray_cell_order : goal.returns-clause-stray_cell_order
returns-clause-stray_cell_order c = simp computing

pub returns-clause-stray_base_order : goal.returns-clause-stray_base_order
returns-clause-stray_base_order c = simp computing
