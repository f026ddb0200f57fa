use Rattle.std.proofs.Common.{◌++◌, ap, ◌∙◌}
use Rattle.std.proofs.lemmas.Result.{on_ok_weaker, on_err_weaker}
use Rattle.seam_node_steps.specs.Prelude.{Task, cell_steps}
use Rattle.seam_cell_cases.proofs.StepLemmas.{whole_either}
use Rattle.seam_cell_told.proofs.ToldAgain.{none_told}
use Rattle.seam_cell.proofs.cell.Cell.survey.Goals as goal

pub invariant_of-self : goal.invariant_of-self
invariant_of-self c =
    let old = c.self.inside in
    let new = c.survey_task.new in (
      whole_either old.known old.reals new.reals old.remotes new.remotes old.lists new.lists Task c.survey_task.result c.self.invariant.0
          c.survey_task.ensures.marks c.survey_task.ensures.state c.survey_task.ensures.err,
      none_told _ c.clear.new.self c.clear.ensures,
    )

pub returns-clause-state : goal.returns-clause-state
returns-clause-state c =
    on_ok_weaker c.survey_task.result (λ e. e ∙ ap (λ v. (cell_steps v Task).state) c.self.view_is) c.survey_task.ensures.state

pub returns-clause-sent : goal.returns-clause-sent
returns-clause-sent c =
    on_ok_weaker c.survey_task.result (λ e. e ∙ ap (λ v. c.args.out.now.items ++ (cell_steps v Task).sent) c.self.view_is)
    c.survey_task.ensures.sent

pub returns-clause-err : goal.returns-clause-err
returns-clause-err c = on_err_weaker c.survey_task.result (λ e. e ∙ c.self.view_is) c.survey_task.ensures.err
