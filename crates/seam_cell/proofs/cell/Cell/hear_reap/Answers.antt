use Rattle.std.proofs.Common.{◌++◌, ap, ◌∙◌}
use Rattle.std.proofs.lemmas.Result.{on_ok_weaker, on_err_weaker}
use Rattle.seam_node_steps.specs.Prelude.{From, Reap, cell_steps}
use Rattle.seam_cell_cases.proofs.StepLemmas.{whole_either}
use Rattle.seam_cell_told.proofs.ToldAgain.{none_told}
use Rattle.seam_cell.proofs.cell.Cell.hear_reap.Goals as goal

pub invariant_of-self : goal.invariant_of-self
invariant_of-self c =
    let old = c.self.inside in (
      whole_either old.known old.reals c.reap.new.reals old.remotes c.reap.new.remotes old.lists c.reap.new.lists (From 0 (Reap c.args.e))
          c.reap.result c.self.invariant.0 c.reap.ensures.marks (c.reap.ensures.state old.known 0) (c.reap.ensures.err old.known),
      none_told _ c.clear.new.self c.clear.ensures,
    )

pub returns-clause-state : goal.returns-clause-state
returns-clause-state c from =
    on_ok_weaker c.reap.result (λ e. e ∙ ap (λ v. (cell_steps v (From from (Reap c.args.e))).state) c.self.view_is)
    (c.reap.ensures.state c.self.inside.known from)

pub returns-clause-sent : goal.returns-clause-sent
returns-clause-sent c from =
    on_ok_weaker c.reap.result
    (λ e. e ∙ ap (λ v. c.args.out.now.items ++ (cell_steps v (From from (Reap c.args.e))).sent) c.self.view_is)
    (c.reap.ensures.sent c.self.inside.known from)

pub returns-clause-err : goal.returns-clause-err
returns-clause-err c = on_err_weaker c.reap.result (λ e. e ∙ c.self.view_is) (c.reap.ensures.err c.self.inside.known)
