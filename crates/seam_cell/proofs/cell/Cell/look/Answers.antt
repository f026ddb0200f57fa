use Rattle.std.proofs.Common.{◌≡◌, ◌++◌, ap, sym, ◌∙◌}
use Rattle.std.proofs.lemmas.Result.{on_ok_weaker, on_err_weaker}
use Rattle.seam_node_steps.specs.Prelude.{Task, cell_steps, look_next, ready_entity}
use Rattle.seam_cell_parts.specs.Kept.{cell_of}
use Rattle.seam_cell_cases.proofs.StepLemmas.{whole_either, task_looks}
use Rattle.seam_cell.proofs.cell.Cell.look.Goals as goal

module _ (c : goal.After-look_task) where
  looks : cell_steps (cell_of c.self.inside.known c.self.inside.reals c.self.inside.remotes c.self.inside.lists) Task
      ≡ look_next (cell_of c.self.inside.known c.self.inside.reals c.self.inside.remotes c.self.inside.lists) c.self.inside.lists.looks
  looks =
      task_looks (cell_of c.self.inside.known c.self.inside.reals c.self.inside.remotes c.self.inside.lists)
      (ap (λ v. v.survey) c.self.view_is ∙ c.requires.surveyed) (ap ready_entity c.self.view_is ∙ c.requires.not_ready)

pub invariant_of-self : goal.invariant_of-self
invariant_of-self c =
    let old = c.self.inside in (
      whole_either old.known old.reals c.look_task.new.reals old.remotes c.look_task.new.remotes old.lists c.look_task.new.lists
          Task c.look_task.result
          c.self.invariant.0 c.look_task.ensures.marks
          (on_ok_weaker c.look_task.result (λ e. e ∙ ap (λ w. w.state) (sym (looks c))) c.look_task.ensures.state) c.look_task.ensures.err,
      c.look_task.ensures.told,
    )

pub returns-clause-state : goal.returns-clause-state
returns-clause-state c =
    on_ok_weaker c.look_task.result
    (λ e. e ∙ (ap (λ w. w.state) (sym (looks c)) ∙ ap (λ v. (cell_steps v Task).state) c.self.view_is)) c.look_task.ensures.state

pub returns-clause-sent : goal.returns-clause-sent
returns-clause-sent c =
    on_ok_weaker c.look_task.result
    (λ e. e
    ∙ (ap (λ w. c.args.out.now.items ++ w.sent) (sym (looks c))
    ∙ ap (λ v. c.args.out.now.items ++ (cell_steps v Task).sent) c.self.view_is)) c.look_task.ensures.sent

pub returns-clause-err : goal.returns-clause-err
returns-clause-err c = on_err_weaker c.look_task.result (λ e. e ∙ c.self.view_is) c.look_task.ensures.err
