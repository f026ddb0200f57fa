use Rattle.std.proofs.Common.{◌++◌, ap, sym, ◌∙◌}
use Rattle.std.proofs.lemmas.Result.{on_ok_weaker}
use Rattle.seam_node_steps.specs.Cells.{cell_steps}
use Rattle.seam_cell.proofs.cell.CellMachine.step.Goals as goal

pub returns-in-From-clause-state : goal.returns-in-From-clause-state
returns-in-From-clause-state c =
    on_ok_weaker c.hear.result (λ e. e ∙ ap (λ i. (cell_steps c.args.self.now i).state) (sym c.in-From.is))
    (c.hear.ensures.state c.in-From.field-0)

pub returns-in-From-clause-sent : goal.returns-in-From-clause-sent
returns-in-From-clause-sent c =
    on_ok_weaker c.hear.result
    (λ e. e ∙ ap (λ i. c.args.out.now.items ++ (cell_steps c.args.self.now i).sent) (sym c.in-From.is))
    (c.hear.ensures.sent c.in-From.field-0)
