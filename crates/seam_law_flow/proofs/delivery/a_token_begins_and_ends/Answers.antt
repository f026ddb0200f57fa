use Rattle.seam_law_flow.proofs.Lives.{sole_born, nobody_met, nobody_ends}
use Rattle.seam_law_flow.proofs.delivery.a_token_begins_and_ends.Goals as goal

pub returns-clause-begins : goal.returns-clause-begins
returns-clause-begins g c = λ held carried w v m h e nh to q o. sole_born held carried m h e nh to q o

pub returns-clause-met : goal.returns-clause-met
returns-clause-met g c = λ held carried w v m p x r h e s o. nobody_met held carried m p x r h e s o

pub returns-clause-ends : goal.returns-clause-ends
returns-clause-ends g c = λ held carried w v m p x r h e f nh o. nobody_ends held carried m p x r h e f nh o
