use Rattle.seam_law_slides.proofs.Example.{may_slide}
use Rattle.seam_law_slides.proofs.a_worked_slide_may_be_given.Goals as goal

pub returns : goal.returns
returns c = may_slide
