use Rattle.seam_law_texts.proofs.Writing.{text_is}
use Rattle.seam_law_texts.proofs.laws.a_rounds_text_is_that_of_its_lines.Goals as goal

pub returns : goal.returns
returns c = text_is
