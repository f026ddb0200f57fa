use Rattle.seam_law_calls.proofs.StrayRuns.{routes_lead}
use Rattle.seam_law_calls.proofs.base_calls.routes_are_kept.Goals as goal

pub returns : goal.returns
returns c = λ f e ty w v es frame known one spared routes run. routes_lead f frame e ty known w v es one spared routes run
