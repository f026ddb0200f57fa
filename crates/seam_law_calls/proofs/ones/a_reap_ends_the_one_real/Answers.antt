use Rattle.seam_law_calls.proofs.Counting.{counted_none, none_counts}
use Rattle.seam_law_calls.proofs.Gone.{gone_leads, reap_ends}
use Rattle.seam_law_calls.proofs.OneReal.{one_until}
use Rattle.seam_law_calls.proofs.ones.a_reap_ends_the_one_real.Goals as goal

pub returns-clause-until : goal.returns-clause-until
returns-clause-until c = λ f e ty w es frame known h on calm. one_until f frame e ty known w es h on calm

pub returns-clause-ends : goal.returns-clause-ends
returns-clause-ends c = λ f e ty w v o r frame h fed here. none_counts _ e (reap_ends f frame e ty w v o h r fed here)

pub returns-clause-gone : goal.returns-clause-gone
returns-clause-gone c = λ f e w v es frame q none on. none_counts v e (gone_leads f frame e w v es q (counted_none w e none) on)
