use Rattle.seam_law_flow.proofs.TokenCounts.{one_counted, sole_counts, none_counted, nobody_counts}
use Rattle.seam_law_flow.proofs.tokens.one_token_is_counted_once.Goals as goal

pub returns-clause-one : goal.returns-clause-one
returns-clause-one g c = λ slot none mine held carried w z h. one_counted slot none mine held carried w z h

pub returns-clause-counts : goal.returns-clause-counts
returns-clause-counts g c = λ slot none mine held carried w z p r s. sole_counts slot none mine held carried w z p r s

pub returns-clause-none : goal.returns-clause-none
returns-clause-none g c = λ slot none mine held carried w z h. none_counted slot none mine held carried w z h

pub returns-clause-nobody : goal.returns-clause-nobody
returns-clause-nobody g c = λ slot none mine held carried w z n. nobody_counts slot none mine held carried w z n
