use Rattle.seam_value.proofs.Answers.{text_of-injective}
use Rattle.seam_value.proofs.laws.spelling_is_one_to_one.Goals as goal

pub returns : goal.returns
returns c = text_of-injective
