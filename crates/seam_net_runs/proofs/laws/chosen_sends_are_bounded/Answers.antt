use Rattle.seam_net_runs.proofs.MapSums.{sent_of_chosen}
use Rattle.seam_net_runs.proofs.laws.chosen_sends_are_bounded.Goals as goal

pub returns : goal.returns
returns g c = λ h f most from len low. sent_of_chosen h f most from len low
