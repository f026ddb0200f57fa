use Rattle.seam_net_runs.proofs.Keeping.{each_link}
use Rattle.seam_net_runs.proofs.laws.each_link_is_kept.Goals as goal

pub returns : goal.returns
returns g c = λ steps w e o each less more. each_link g.Q.LinkFact.is steps w e o each less more
