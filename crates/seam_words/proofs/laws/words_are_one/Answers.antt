use Rattle.seam_words.proofs.Scan.{same_words}
use Rattle.seam_words.proofs.laws.words_are_one.Goals as goal

pub returns : goal.returns
returns c = same_words
