use Rattle.seam_law_flow.proofs.Unlogging.{takes_go}
use Rattle.seam_law_flow.proofs.delivery.items_are_delivered_without_a_list.Goals as goal

pub returns : goal.returns
returns g c = λ order brings w v m b first issued given us gs d p. takes_go order brings m b first issued given d us gs p
