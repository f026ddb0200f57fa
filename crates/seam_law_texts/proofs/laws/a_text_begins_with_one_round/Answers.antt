use Rattle.seam_law_texts.proofs.Beginnings.{first_round}
use Rattle.seam_law_texts.proofs.laws.a_text_begins_with_one_round.Goals as goal

pub returns : goal.returns
returns c = first_round
