use Rattle.seam_law_bounds.proofs.NetWeights.{event_lowers}
use Rattle.seam_law_bounds.proofs.measure.an_event_lowers_the_weight.Goals as goal

pub returns : goal.returns
returns c = event_lowers
