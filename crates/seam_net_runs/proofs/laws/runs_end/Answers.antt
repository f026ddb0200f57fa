use Rattle.seam_net_runs.proofs.Runs.{leads_end}
use Rattle.seam_net_runs.proofs.laws.runs_end.Goals as goal

pub returns : goal.returns
returns g c =
    λ has_work steps low w v es p a. leads_end has_work steps g.G.NetMeasure.kind g.G.NetMeasure.number g.F.NetFact.holds low w v es p a
