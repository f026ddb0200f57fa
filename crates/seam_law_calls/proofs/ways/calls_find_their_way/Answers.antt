use Rattle.seam_law_calls.proofs.Finding.{ways_lead}
use Rattle.seam_law_calls.proofs.ways.calls_find_their_way.Goals as goal

pub returns : goal.returns
returns c = λ f e ty w v es frame known fits spared p r one lead run.
    ways_lead f frame e ty known w v es (record { fits = fits; place = p; real = r; one = one }) spared lead run
