use Rattle.seam_law_verdicts.proofs.OnePlace.{one_place}
use Rattle.seam_law_verdicts.proofs.laws.a_text_fails_at_one_place.Goals as goal

pub returns : goal.returns
returns c = one_place
