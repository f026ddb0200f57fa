use Rattle.seam_law_texts.proofs.Sequence.{same_first}
use Rattle.seam_law_texts.proofs.laws.a_line_has_a_text_of_its_own.Goals as goal

pub returns : goal.returns
returns c = same_first
