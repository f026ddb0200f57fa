use Rattle.std.proofs.Common.{refl}
use Rattle.seam_node_steps.proofs.loads.orders_given.Goals as goal

pub returns-clause-its_node : goal.returns-clause-its_node
returns-clause-its_node c = refl

pub returns-clause-other_node : goal.returns-clause-other_node
returns-clause-other_node c = refl

pub returns-clause-reap : goal.returns-clause-reap
returns-clause-reap c = refl

pub returns-clause-reap_elsewhere : goal.returns-clause-reap_elsewhere
returns-clause-reap_elsewhere c = refl
