use Rattle.seam_machine.proofs.Parts.{same_net, parts_many, parts_place}
use Rattle.seam_machine.proofs.laws.parts_are_the_net.Goals as goal

pub returns-clause-same : goal.returns-clause-same
returns-clause-same g c = λ p w v a b. same_net p w v a b

pub returns-clause-many : goal.returns-clause-many
returns-clause-many g c = λ p w a. parts_many p w a

pub returns-clause-places : goal.returns-clause-places
returns-clause-places g c = λ p w a b q la lb. parts_place p w a b q la lb
