use Rattle.std.proofs.Common.{ap}
use Rattle.seam_rule_rounds.specs.Summary.{totals_of, totals_text}
use Rattle.seam_rule_rounds.proofs.Inputs.{sums_are_one}
use Rattle.seam_rule_rounds.proofs.summaries.summary_is_one.Goals as goal

pub returns : goal.returns
returns c = λ one lines n h k ps qs names asks x y. ap (λ sums. totals_text n (totals_of sums))
    (sums_are_one one lines h k ps qs names asks x y)
