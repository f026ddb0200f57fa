use Rattle.seam_law_slides.proofs.Rounds.{numbers_rise}
use Rattle.seam_law_slides.proofs.no_number_falls.Goals as goal

pub returns : goal.returns
returns c = numbers_rise
