use Rattle.seam_law_calls.proofs.CellRuns.{finds}
use Rattle.seam_law_calls.proofs.once.a_cell_call_is_never_stray.Goals as goal

pub returns : goal.returns
returns c = λ f e ty w frame known has spared lead first batch ours turns few a k d ms at.
    finds f frame e ty known first batch ours w (record { has = has; spared = spared; lead = lead; turns = turns; room = few }) a k d ms at
