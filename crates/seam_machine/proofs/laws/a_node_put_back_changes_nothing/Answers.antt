use Rattle.seam_machine.proofs.Occurring.{with_node_same}
use Rattle.seam_machine.proofs.laws.a_node_put_back_changes_nothing.Goals as goal

pub returns : goal.returns
returns g c = λ w k s h. with_node_same w k s h
