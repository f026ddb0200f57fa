use Rattle.seam_net_runs.proofs.MapSums.{total_of_insert, total_of_remove}
use Rattle.seam_net_runs.proofs.laws.a_map_weighs_its_values.Goals as goal

pub returns-clause-put : goal.returns-clause-put
returns-clause-put g c = λ f m k x. total_of_insert f m k x

pub returns-clause-removed : goal.returns-clause-removed
returns-clause-removed g c = λ f m k. total_of_remove f m k
