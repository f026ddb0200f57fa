use Rattle.seam_law_calls.proofs.StrayRuns.{base_burden_leads}
use Rattle.seam_law_calls.proofs.base_calls.base_numbers_stay_small.Goals as goal

pub returns : goal.returns
returns c = λ f e w v es q run. base_burden_leads f e w v es q run
