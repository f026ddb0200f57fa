use Rattle.seam_law_bounds.proofs.Climbing.{each_event_climbs}
use Rattle.seam_law_bounds.proofs.ranks.ranks_rise_with_hand_overs_alone.Goals as goal

pub returns : goal.returns
returns c = each_event_climbs
