use Rattle.seam_law_calls.proofs.OneReal.{one_leads}
use Rattle.seam_law_calls.proofs.ones.reals_replay_their_calls.Goals as goal

pub returns : goal.returns
returns c = λ f e ty w v es frame known fits spared p r one run.
    one_leads f frame e ty known w v es (record { fits = fits; place = p; real = r; one = one }) spared run
