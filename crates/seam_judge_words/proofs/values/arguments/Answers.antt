use Rattle.seam_judge_words.proofs.WordSteps.{none_left}
use Rattle.seam_judge_words.proofs.ValueSteps.{args_fitting_end}
use Rattle.seam_judge_words.proofs.values.arguments.Goals as goal

pub returns-clause-form : goal.returns-clause-form
returns-clause-form c =
    args_fitting_end c.args.types.now c.loop-ty.left.now c.loop-ty.values.items (none_left c.loop-ty.left.now c.in_default.ensures.cases)
    c.loop-ty.invariant.form
