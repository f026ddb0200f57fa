use Rattle.seam_law_slides.proofs.Whole.{ends_last, ends_restful}
use Rattle.seam_law_slides.proofs.a_round_ends_by_its_last_tree.Goals as goal

pub returns-clause-cells : goal.returns-clause-cells
returns-clause-cells c = λ f w b later may v es run quiet k x low at. ends_last f w b later may v es run quiet k x low at

pub returns-clause-places : goal.returns-clause-places
returns-clause-places c = λ f w b later may v es run quiet k x low at. ends_restful f w b later may v es run quiet k x low at
