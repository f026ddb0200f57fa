use Rattle.seam_net_runs.proofs.Runs.{leads_extend}
use Rattle.seam_net_runs.proofs.laws.runs_extend.Goals as goal

pub returns-clause-more : goal.returns-clause-more
returns-clause-more g c = λ has_work steps w v es e a h. leads_extend has_work steps w v es e a h
