use Rattle.seam_law_calls.proofs.Easing.{burden_leads}
use Rattle.seam_law_calls.proofs.ones.numbers_stay_small.Goals as goal

pub returns : goal.returns
returns c = burden_leads
