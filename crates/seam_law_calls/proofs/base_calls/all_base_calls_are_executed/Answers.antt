use Rattle.seam_law_calls.proofs.BaseQuiet.{all_executed}
use Rattle.seam_law_calls.proofs.base_calls.all_base_calls_are_executed.Goals as goal

pub returns : goal.returns
returns c = λ f e ty first batch v h quiet k p there s. all_executed f e v h.part.frame quiet first batch h.turns k p there s
