use Rattle.seam_law_texts.proofs.Sequence.{same_lines}
use Rattle.seam_law_texts.proofs.laws.a_text_is_one_sequence_of_lines.Goals as goal

pub returns : goal.returns
returns c = same_lines
