use Rattle.seam_net_example.proofs.RingLemmas.{small_goes}
use Rattle.seam_net_example.proofs.laws.small_numbers_are_seen.Goals as goal

pub returns : goal.returns
returns c = λ w e q h. small_goes w e q h
