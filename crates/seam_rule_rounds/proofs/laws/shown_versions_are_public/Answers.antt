use Rattle.seam_rule_rounds.proofs.Shown.{as_the_rules_say, as_in_the_round, versions_rise}
use Rattle.seam_rule_rounds.proofs.laws.shown_versions_are_public.Goals as goal

pub returns-clause-by_version : goal.returns-clause-by_version
returns-clause-by_version c = as_the_rules_say

pub returns-clause-in_round : goal.returns-clause-in_round
returns-clause-in_round c = λ h s t r e copy round so. as_in_the_round h s t e copy (λ made is. versions_rise h s t r round made) so
