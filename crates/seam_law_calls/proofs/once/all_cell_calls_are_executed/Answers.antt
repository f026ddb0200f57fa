use Rattle.seam_law_calls.proofs.CellRuns.{kept_leads}
use Rattle.seam_law_calls.proofs.Quieting.{all_executed}
use Rattle.seam_law_calls.proofs.once.all_cell_calls_are_executed.Goals as goal

pub returns : goal.returns
returns c = λ f e ty w v es frame known has spared lead first batch ours turns few run quiet k r there s.
    let kept =
    kept_leads f frame e ty known first batch ours w v es
    (record { has = has; spared = spared; lead = lead; turns = turns; room = few }) run in
    all_executed f e v kept.has.fits.frame quiet first batch kept.turns k r there s
