use Rattle.seam_law_flow.proofs.TokenLemmas.{sole_goes, token_turns, one_goes}
use Rattle.seam_law_flow.proofs.tokens.one_token_stays_the_one.Goals as goal

pub returns-clause-sole : goal.returns-clause-sole
returns-clause-sole g c = λ held carried w v m p r s h. sole_goes held carried g.T.Token.acts m p r s h

pub returns-clause-turned : goal.returns-clause-turned
returns-clause-turned g c = λ held carried w v m p r s h. token_turns held carried g.T.Token.acts m p r s h

pub returns-clause-fact : goal.returns-clause-fact
returns-clause-fact g c = λ held carried keeps w v m s h. one_goes held carried g.T.Token.acts g.T.Token.is keeps m s h
