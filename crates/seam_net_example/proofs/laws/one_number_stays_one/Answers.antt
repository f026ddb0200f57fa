use Rattle.seam_net_example.proofs.NumberLemmas.{one_stays, one_falls}
use Rattle.seam_net_example.proofs.laws.one_number_stays_one.Goals as goal

pub returns-clause-count : goal.returns-clause-count
returns-clause-count c = λ w e q on h one. one_stays w e q on h one

pub returns-clause-bound : goal.returns-clause-bound
returns-clause-bound c = λ top w v g h. one_falls top g h
