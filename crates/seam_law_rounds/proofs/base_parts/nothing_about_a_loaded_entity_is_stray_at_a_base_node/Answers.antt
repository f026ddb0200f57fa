use Rattle.seam_law_rounds.proofs.PartsGoing.{none_strays}
use Rattle.seam_law_rounds.proofs.base_parts.nothing_about_a_loaded_entity_is_stray_at_a_base_node.Goals as goal

pub returns : goal.returns
returns c = none_strays
