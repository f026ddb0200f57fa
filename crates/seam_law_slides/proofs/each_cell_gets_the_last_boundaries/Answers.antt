use Rattle.seam_law_slides.proofs.Awaiting.{last_at_end}
use Rattle.seam_law_slides.proofs.each_cell_gets_the_last_boundaries.Goals as goal

pub returns : goal.returns
returns c = λ f frame space w v es round wait run quiet k x low at. last_at_end f frame space k low w v es round (wait k low) run quiet x at
