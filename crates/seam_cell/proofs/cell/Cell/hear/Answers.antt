use Rattle.std.proofs.Common.{◌++◌, ap, sym, ◌∙◌}
use Rattle.std.proofs.lemmas.Result.{on_ok_weaker}
use Rattle.seam_node_steps.specs.Prelude.{From, cell_steps}
use Rattle.seam_cell.proofs.cell.Cell.hear.Goals as goal

pub take_call-requires : goal.take_call-requires
take_call-requires c = (c.in-Call.field-0, c.in-Call.is)

pub take_hand-requires : goal.take_hand-requires
take_hand-requires c = (c.in-Hand.field-0, c.in-Hand.field-1, c.in-Hand.is)

pub take_bounds-requires : goal.take_bounds-requires
take_bounds-requires c = (c.in-Bounds.field-0, c.in-Bounds.is)

pub take_ghost_set-requires : goal.take_ghost_set-requires
take_ghost_set-requires c = (c.in-GhostSet.field-0, c.in-GhostSet.field-1, c.in-GhostSet.field-2, c.in-GhostSet.is)

pub returns-in-GhostDrop-clause-state : goal.returns-in-GhostDrop-clause-state
returns-in-GhostDrop-clause-state c from =
    on_ok_weaker c.hear_ghost_drop.result
    (λ e. e ∙ ap (λ m. (cell_steps c.args.self.now (From from m)).state) (sym c.in-GhostDrop.is)) (c.hear_ghost_drop.ensures.state from)

pub returns-in-Tick-clause-state : goal.returns-in-Tick-clause-state
returns-in-Tick-clause-state c from =
    on_ok_weaker c.hear_tick.result
    (λ e. e ∙ ap (λ m. (cell_steps c.args.self.now (From from m)).state) (sym c.in-Tick.is)) (c.hear_tick.ensures.state from)

pub returns-in-Reap-clause-state : goal.returns-in-Reap-clause-state
returns-in-Reap-clause-state c from =
    on_ok_weaker c.hear_reap.result
    (λ e. e ∙ ap (λ m. (cell_steps c.args.self.now (From from m)).state) (sym c.in-Reap.is)) (c.hear_reap.ensures.state from)

pub returns-in-Reap-clause-sent : goal.returns-in-Reap-clause-sent
returns-in-Reap-clause-sent c from =
    on_ok_weaker c.hear_reap.result
    (λ e. e ∙ ap (λ m. c.args.out.now.items ++ (cell_steps c.args.self.now (From from m)).sent) (sym c.in-Reap.is))
    (c.hear_reap.ensures.sent from)
