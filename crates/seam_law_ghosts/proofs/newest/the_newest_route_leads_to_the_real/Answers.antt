use Rattle.seam_law_ghosts.proofs.Routing.{routes_each}
use Rattle.seam_law_ghosts.proofs.newest.the_newest_route_leads_to_the_real.Goals as goal

pub returns : goal.returns
returns c = routes_each
