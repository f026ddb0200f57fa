use Rattle.seam_law_bounds.proofs.HandedOver.{generation_counts}
use Rattle.seam_law_bounds.proofs.ranks.a_generation_counts_hand_overs.Goals as goal

pub returns : goal.returns
returns c = λ f w b begin e k r here v es on j q at. generation_counts f w b begin e k r here 0 0 v es on j q at
