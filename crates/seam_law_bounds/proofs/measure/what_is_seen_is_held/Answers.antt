use Rattle.seam_law_bounds.proofs.Opening.{opened_sees}
use Rattle.seam_law_bounds.proofs.There.{sees_then}
use Rattle.seam_law_bounds.proofs.measure.what_is_seen_is_held.Goals as goal

pub returns-clause-opened : goal.returns-clause-opened
returns-clause-opened c = opened_sees

pub returns-clause-calls : goal.returns-clause-calls
returns-clause-calls c = λ f w b may copies sees v es run. sees_then f w b may copies sees v es run
