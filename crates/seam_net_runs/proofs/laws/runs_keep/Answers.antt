use Rattle.seam_net_runs.proofs.Runs.{leads_keeps}
use Rattle.seam_net_runs.proofs.laws.runs_keep.Goals as goal

pub returns : goal.returns
returns g c = λ has_work steps keeps w v es p a. leads_keeps has_work steps g.F.NetFact.holds keeps w v es p a
