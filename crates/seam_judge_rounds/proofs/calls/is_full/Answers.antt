use Rattle.seam_judge_rounds.proofs.Grouping.{full_decided}
use Rattle.seam_judge_rounds.proofs.calls.is_full.Goals as goal

pub returns : goal.returns
returns c =
    full_decided c.args.part c.args.accepted.now c.args.executed.now c.in_ok-given.given.items c.in_ok-done.done.items
    c.deref-2.result.now c.deref.result.now c.are_same_calls.result c.deref-2.ensures.value c.deref.ensures.value c.in_ok-given.ensures
    c.in_ok-done.ensures c.are_same_calls.ensures
