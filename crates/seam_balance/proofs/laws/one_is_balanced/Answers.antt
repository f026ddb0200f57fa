use Rattle.seam_balance.specs.Order.{boundaries_from_root}
use Rattle.seam_balance.proofs.One.{one_best, one_in_turn}
use Rattle.seam_balance.proofs.laws.one_is_balanced.Goals as goal

pub returns-clause-place : goal.returns-clause-place
returns-clause-place c = one_best

pub returns-clause-tree : goal.returns-clause-tree
returns-clause-tree c positions shift t = one_in_turn positions shift (boundaries_from_root t) t
