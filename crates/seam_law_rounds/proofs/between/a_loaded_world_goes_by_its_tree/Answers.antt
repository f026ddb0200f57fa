use Rattle.seam_law_rounds.proofs.Framing.{in_frame}
use Rattle.seam_law_rounds.proofs.between.a_loaded_world_goes_by_its_tree.Goals as goal

pub returns-clause-nodes : goal.returns-clause-nodes
returns-clause-nodes c = in_frame
