use Rattle.seam_net_runs.proofs.Runs.{leads_join, leads_part}
use Rattle.seam_net_runs.proofs.laws.runs_join.Goals as goal

pub returns-clause-joined : goal.returns-clause-joined
returns-clause-joined g c = λ has_work steps w v u es ds a b. leads_join has_work steps w v u es ds a b

pub returns-clause-parted : goal.returns-clause-parted
returns-clause-parted g c = λ has_work steps w u es ds a. leads_part has_work steps w u es ds a
