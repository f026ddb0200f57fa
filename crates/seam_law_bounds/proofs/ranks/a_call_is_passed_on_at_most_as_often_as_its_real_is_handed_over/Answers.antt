use Rattle.seam_law_bounds.proofs.HandedOver.{passed_few}
use Rattle.seam_law_bounds.proofs.ranks.a_call_is_passed_on_at_most_as_often_as_its_real_is_handed_over.Goals as goal

pub returns : goal.returns
returns c = λ f w b begin e k r here s n v es on. passed_few f w b begin e k r here s n v es on
