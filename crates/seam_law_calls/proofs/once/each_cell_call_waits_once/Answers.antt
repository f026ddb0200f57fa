use Rattle.seam_law_calls.proofs.CellRuns.{kept_leads}
use Rattle.seam_law_calls.proofs.once.each_cell_call_waits_once.Goals as goal

pub returns : goal.returns
returns c = λ f e ty w v es frame known has spared lead first batch ours turns few run.
    (kept_leads f frame e ty known first batch ours w v es (record { has = has; spared = spared; lead = lead; turns = turns; room = few })
    run).turns
