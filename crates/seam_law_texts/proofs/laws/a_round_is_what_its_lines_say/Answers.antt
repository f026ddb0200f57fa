use Rattle.seam_law_texts.proofs.Gathering.{round_is_said}
use Rattle.seam_law_texts.proofs.laws.a_round_is_what_its_lines_say.Goals as goal

pub returns : goal.returns
returns c = round_is_said
