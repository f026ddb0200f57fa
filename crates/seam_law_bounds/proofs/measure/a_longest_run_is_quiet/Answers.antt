use Rattle.seam_law_bounds.proofs.NetWeights.{longest_is_quiet}
use Rattle.seam_law_bounds.proofs.measure.a_longest_run_is_quiet.Goals as goal

pub returns : goal.returns
returns c = longest_is_quiet
