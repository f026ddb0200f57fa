use Rattle.std.proofs.Common.{◌++◌, ap, sym, ◌∙◌}
use Rattle.seam_node_steps.specs.Prelude.{From, cell_steps}
use Rattle.seam_cell.proofs.cell.Cell.take_call.Goals as goal

pub returns-in-Ok-clause-state : goal.returns-in-Ok-clause-state
returns-in-Ok-clause-state c from =
    c.in-Ok.ensures.state from
    ∙ ap (λ m. (cell_steps c.args.self.now (From from m)).state) (sym c.in-Call.is ∙ c.replace.ensures.value)

pub returns-in-Ok-clause-sent : goal.returns-in-Ok-clause-sent
returns-in-Ok-clause-sent c from =
    c.in-Ok.ensures.sent from
    ∙ ap (λ m. c.args.out.now.items ++ (cell_steps c.args.self.now (From from m)).sent) (sym c.in-Call.is ∙ c.replace.ensures.value)
