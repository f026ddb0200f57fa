use Rattle.seam_net_example.proofs.RingLemmas.{ring_ends}
use Rattle.seam_net_example.proofs.laws.runs_of_a_ring_end.Goals as goal

pub returns : goal.returns
returns c = λ w v es q a. ring_ends w v es q a
