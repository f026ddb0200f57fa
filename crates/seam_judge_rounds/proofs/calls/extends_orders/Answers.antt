use Rattle.std.proofs.Common.{◌∙◌}
use Rattle.seam_judge_data.specs.Standings.{standing_of}
use Rattle.seam_judge_rounds.proofs.Agreeing.{extends_decided}
use Rattle.seam_judge_rounds.proofs.calls.extends_orders.Goals as goal

pub returns : goal.returns
returns c =
    extends_decided (standing_of c.args.before.now).book c.args.part c.args.before.now.calls.items c.args.done.now c.args.made.now
    c.args.lines.now c.requires c.deref-3.result.now c.deref.result.now c.deref-2.result.now c.are_same.result c.in_ok-full.full
    c.both.result
    (c.deref-3.ensures.value ∙ c.in_ok-expected.ensures) (c.deref.ensures.value ∙ c.in_ok-accepted.ensures)
    (c.deref-2.ensures.value ∙ c.in_ok-executed.ensures) c.are_same.ensures c.in_ok-full.ensures c.both.ensures
