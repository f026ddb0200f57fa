use Rattle.seam_net_runs.proofs.Weighing.{weight_moves, weight_bounds}
use Rattle.seam_net_runs.proofs.laws.weights_move.Goals as goal

pub returns-clause-moved : goal.returns-clause-moved
returns-clause-moved g c = λ f h steps w e o q sent. weight_moves f h steps w e o q sent

pub returns-clause-bound : goal.returns-clause-bound
returns-clause-bound g c = λ f h w e o. weight_bounds f h w e o
