use Rattle.seam_law_bounds.proofs.NetWeights.{run_ends}
use Rattle.seam_law_bounds.proofs.measure.a_run_is_no_longer_than_its_start_weighs.Goals as goal

pub returns : goal.returns
returns c = λ z f w v es q can run. run_ends z f w q can v es run
