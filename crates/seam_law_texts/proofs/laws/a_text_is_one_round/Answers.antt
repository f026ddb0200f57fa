use Rattle.seam_law_texts.proofs.Sequence.{same_rounds}
use Rattle.seam_law_texts.proofs.laws.a_text_is_one_round.Goals as goal

pub returns : goal.returns
returns c = same_rounds
