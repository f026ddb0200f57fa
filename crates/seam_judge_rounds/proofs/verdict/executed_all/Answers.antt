use Rattle.std.proofs.Common.{◌∙◌}
use Rattle.seam_judge_data.specs.Standings.{standing_of}
use Rattle.seam_judge_expected.proofs.ListedLemmas.{if_ok}
use Rattle.seam_judge_rounds.proofs.AllPoints.{orders_decided}
use Rattle.seam_judge_rounds.proofs.verdict.executed_all.Goals as goal

pub returns : goal.returns
returns c =
    if_ok c.extends_orders.result
    (λ r is. orders_decided c.args.case.now.before.now c.args.case.now.round.now (standing_of c.args.case.now.after.now) c.deref.result.now
    c.args.part c.args.lines.now r c.requires.after (c.deref.ensures.value ∙ c.in_ok-calls.ensures) is)
    c.extends_orders.ensures
