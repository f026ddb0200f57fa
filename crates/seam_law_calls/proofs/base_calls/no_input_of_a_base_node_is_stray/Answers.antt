use Rattle.seam_law_calls.proofs.BaseStrays.{none_at_bases}
use Rattle.seam_law_calls.proofs.base_calls.no_input_of_a_base_node_is_stray.Goals as goal

pub returns : goal.returns
returns c = none_at_bases
