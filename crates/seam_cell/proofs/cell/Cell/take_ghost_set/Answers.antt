use Rattle.std.proofs.Common.{ap, sym, ◌∙◌}
use Rattle.seam_node_steps.specs.Prelude.{From, cell_steps}
use Rattle.seam_cell.proofs.cell.Cell.take_ghost_set.Goals as goal

pub returns-in-Ok-clause-state : goal.returns-in-Ok-clause-state
returns-in-Ok-clause-state c from =
    c.in-Ok.ensures.state from
    ∙ ap (λ m. (cell_steps c.args.self.now (From from m)).state) (sym c.in-GhostSet.is ∙ c.replace.ensures.value)

pub returns-in-Ok-clause-sent : goal.returns-in-Ok-clause-sent
returns-in-Ok-clause-sent c from =
    ap (λ m. (cell_steps c.args.self.now (From from m)).sent) (sym c.replace.ensures.value ∙ c.in-GhostSet.is)
    ∙ c.hear_ghost_set.ensures.sent from

pub returns-in-Err-clause-sent : goal.returns-in-Err-clause-sent
returns-in-Err-clause-sent c from =
    ap (λ m. (cell_steps c.args.self.now (From from m)).sent) (sym c.replace.ensures.value ∙ c.in-GhostSet.is)
    ∙ c.hear_ghost_set.ensures.sent from
