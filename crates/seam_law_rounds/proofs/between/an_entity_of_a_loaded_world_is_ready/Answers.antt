use Rattle.seam_law_rounds.proofs.Going.{settled_loaded, one_loaded, spared_loaded, lead_loaded, room_loaded}
use Rattle.seam_law_rounds.proofs.between.an_entity_of_a_loaded_world_is_ready.Goals as goal

pub returns-clause-settled : goal.returns-clause-settled
returns-clause-settled c = settled_loaded

pub returns-clause-one : goal.returns-clause-one
returns-clause-one c = one_loaded

pub returns-clause-spared : goal.returns-clause-spared
returns-clause-spared c = spared_loaded

pub returns-clause-lead : goal.returns-clause-lead
returns-clause-lead c = lead_loaded

pub returns-clause-room : goal.returns-clause-room
returns-clause-room c = room_loaded
