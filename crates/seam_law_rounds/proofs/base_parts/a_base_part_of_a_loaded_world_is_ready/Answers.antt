use Rattle.seam_law_rounds.proofs.PartsLoaded.{alone_loaded}
use Rattle.seam_law_rounds.proofs.PartTurns.{routes_loaded}
use Rattle.seam_law_rounds.proofs.PartsGoing.{its_part, base_calls_loaded}
use Rattle.seam_law_rounds.proofs.base_parts.a_base_part_of_a_loaded_world_is_ready.Goals as goal

pub returns-clause-settled : goal.returns-clause-settled
returns-clause-settled c = λ f w b may e k r here. (its_part f w b may e k r here).settled

pub returns-clause-calls : goal.returns-clause-calls
returns-clause-calls c = base_calls_loaded

pub returns-clause-routes : goal.returns-clause-routes
returns-clause-routes c = λ f w b may e k r here. routes_loaded f w b may e k r here (its_part f w b may e k r here)

pub returns-clause-alone : goal.returns-clause-alone
returns-clause-alone c = alone_loaded
