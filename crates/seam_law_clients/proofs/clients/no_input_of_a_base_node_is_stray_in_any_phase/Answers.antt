use Rattle.seam_law_clients.proofs.BaseInputs.{round_strays_none, reaps_strays_none, looks_strays_none}
use Rattle.seam_law_clients.proofs.clients.no_input_of_a_base_node_is_stray_in_any_phase.Goals as goal

pub returns-clause-round : goal.returns-clause-round
returns-clause-round c = round_strays_none

pub returns-clause-reaps : goal.returns-clause-reaps
returns-clause-reaps c = reaps_strays_none

pub returns-clause-looks : goal.returns-clause-looks
returns-clause-looks c = looks_strays_none
