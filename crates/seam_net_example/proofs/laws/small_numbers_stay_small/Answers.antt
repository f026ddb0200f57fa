use Rattle.seam_net_example.proofs.RingLemmas.{small_stays, next_stays}
use Rattle.seam_net_example.proofs.laws.small_numbers_stay_small.Goals as goal

pub returns-clause-small : goal.returns-clause-small
returns-clause-small c = λ w v g h. small_stays g h

pub returns-clause-next : goal.returns-clause-next
returns-clause-next c = λ w v k key d g n. next_stays k key d g n
