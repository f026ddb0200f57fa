use Rattle.seam_io.proofs.LineLemmas.{lines_of-append}
use Rattle.seam_io.proofs.laws.whole_lines_stay.Goals as goal

pub returns : goal.returns
returns c = lines_of-append
