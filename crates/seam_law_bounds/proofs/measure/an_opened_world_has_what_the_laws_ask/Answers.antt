use Rattle.seam_law_bounds.proofs.Opening.{opened_among}
use Rattle.seam_law_bounds.proofs.measure.an_opened_world_has_what_the_laws_ask.Goals as goal

pub returns : goal.returns
returns c = opened_among
