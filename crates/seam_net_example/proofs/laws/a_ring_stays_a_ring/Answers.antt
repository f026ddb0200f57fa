use Rattle.seam_net_example.proofs.RingLemmas.{ring_leads}
use Rattle.seam_net_example.proofs.laws.a_ring_stays_a_ring.Goals as goal

pub returns : goal.returns
returns c = λ after w v es r a. ring_leads after w v es r a
