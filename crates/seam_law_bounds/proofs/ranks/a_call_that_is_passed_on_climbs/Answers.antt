use Rattle.seam_law_bounds.proofs.Climbing.{passed_climbs}
use Rattle.seam_law_bounds.proofs.ranks.a_call_that_is_passed_on_climbs.Goals as goal

pub returns : goal.returns
returns c = passed_climbs
