use Rattle.seam_judge_looks.proofs.Steps.{lines_more}
use Rattle.seam_judge_looks.proofs.replica.shown_in.Goals as goal

pub loop-line-preserved : goal.loop-line-preserved
loop-line-preserved c =
    lines_more c.args.lines.now c.loop-line.line-index c.line-item.result _ _ c.loop-line-test.true c.line-item.is c.loop-line.invariant
    c.in_ok-add_shown.ensures
