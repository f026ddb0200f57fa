use Rattle.seam_law_calls.proofs.Counting.{counted_one, one_counts}
use Rattle.seam_law_calls.proofs.OneReal.{one_leads}
use Rattle.seam_law_calls.proofs.ones.exactly_one_real.Goals as goal

pub returns : goal.returns
returns c = λ f e ty w v es frame known fits spared h run.
    let o = counted_one w e h in
    let n = one_leads f frame e ty known w v es (record { fits = fits; place = o.0; real = o.1; one = o.2 }) spared run in
    one_counts v e n.has.place n.has.real n.has.one
