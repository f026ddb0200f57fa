use Rattle.seam_entity.proofs.OrderLemmas.{ordered_none}
use Rattle.seam_test_nodes.proofs.real.tell.Goals as goal

pub plan-requires : goal.plan-requires
plan-requires c = ordered_none

pub keep-requires-clause-rising : goal.keep-requires-clause-rising
keep-requires-clause-rising c = ordered_none
