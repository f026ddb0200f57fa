use Rattle.std.proofs.Common.{sym, ◌∙◌, subst}
use Rattle.seam_rule_lines.specs.Header.{RefusesHeader, too_long}
use Rattle.seam_check.specs.Inputs.{as_line}
use Rattle.seam_check.proofs.HeadSteps.{long_refuses}
use Rattle.seam_check.proofs.head.read_head_line.Goals as goal

pub returns-in-Long : goal.returns-in-Long
returns-in-Long c = λ lines are.
    subst (λ x. RefusesHeader lines (as_line x) too_long) (sym c.in-Long.is) (long_refuses lines c.args.head.now are)

pub returns-in-Some : goal.returns-in-Some
returns-in-Some c = λ lines are.
    subst (λ x. RefusesHeader lines (as_line x) c.in-Some.cause) (sym c.in-Content.is)
    (c.in-Err.ensures.refused lines c.in-Some.cause are (sym c.number.ensures ∙ c.in-Some.is))
