use Rattle.std.proofs.Common.{◌∙◌, ap}
use Rattle.seam_rule_rounds.specs.Lines.{RoundData}
use Rattle.seam_judge_rounds.proofs.ShownLines.{told_decided}
use Rattle.seam_judge_rounds.proofs.clients.is_each_told.Goals as goal

pub returns : goal.returns
returns c =
    told_decided c.args.case.now.before.now c.args.case.now.after.now c.args.case.now.round.now c.deref.result.now c.deref-2.result.now
    c.deref-3.result.now c.deref.ensures.value c.deref-2.ensures.value
    (c.deref-3.ensures.value ∙ ap (λ (r : RoundData). r.shown) c.round.view_is) c.in_ok-of_former.of_former c.in_ok-of_later.of_later
    c.in_ok-of_round.of_round c.both.result c.both-2.result c.in_ok-of_former.ensures c.in_ok-of_later.ensures c.in_ok-of_round.ensures
    c.both.ensures c.both-2.ensures
