use Rattle.std.proofs.Common.{◌∙◌, ap}
use Rattle.std.specs.Prelude.{find, ◌==◌}
use Rattle.seam_judge_rounds.proofs.case.created_as.Goals as goal

pub returns : goal.returns
returns c =
    c.copied.ensures ∙ c.found.ensures
    ∙ ap (find (λ x. x.entity == c.args.entity)) (c.deref.ensures.value ∙ c.in_ok-creates.ensures)
