use Rattle.seam_law_slides.proofs.Loads.{awaited_loaded, rest_loaded, round_loaded}
use Rattle.seam_law_slides.proofs.a_loaded_world_is_as_the_laws_ask.Goals as goal

pub returns-clause-round : goal.returns-clause-round
returns-clause-round c = round_loaded

pub returns-clause-rest : goal.returns-clause-rest
returns-clause-rest c = rest_loaded

pub returns-clause-awaited : goal.returns-clause-awaited
returns-clause-awaited c = awaited_loaded
