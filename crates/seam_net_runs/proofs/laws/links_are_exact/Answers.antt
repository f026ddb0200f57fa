use Rattle.seam_net_runs.proofs.Keeping.{link_is_exact}
use Rattle.seam_net_runs.proofs.laws.links_are_exact.Goals as goal

pub returns : goal.returns
returns g c = λ steps w e o q b x y. link_is_exact steps w e o q b x y
