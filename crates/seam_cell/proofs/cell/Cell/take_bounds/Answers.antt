use Rattle.std.proofs.Common.{ap, sym, ◌∙◌}
use Rattle.seam_node_steps.specs.Prelude.{From, cell_steps}
use Rattle.seam_cell.proofs.cell.Cell.take_bounds.Goals as goal

pub returns-in-Ok-clause-state : goal.returns-in-Ok-clause-state
returns-in-Ok-clause-state c from =
    c.in-Ok.ensures.state from
    ∙ ap (λ m. (cell_steps c.args.self.now (From from m)).state) (sym c.in-Bounds.is ∙ c.replace.ensures.value)
