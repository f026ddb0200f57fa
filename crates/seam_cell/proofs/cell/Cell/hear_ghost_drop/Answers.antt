use Rattle.std.proofs.Common.{ap, sym, ◌∙◌}
use Rattle.std.proofs.lemmas.Result.{on_ok_weaker}
use Rattle.seam_node_steps.specs.Prelude.{From, GhostDrop, cell_steps}
use Rattle.seam_cell.specs.contracts.cell.Cell.{the_view}
use Rattle.seam_cell.proofs.CellLemmas.{ghost_dropped}
use Rattle.seam_cell.proofs.cell.Cell.hear_ghost_drop.Goals as goal

pub returns-clause-state : goal.returns-clause-state
returns-clause-state c from =
    on_ok_weaker c.drop_copy.result
    (λ e. ghost_dropped (the_view c.self.inside) from c.args.e c.args.beat c.drop_copy.new.self.ghosts
    (sym c.is_small.ensures ∙ c.if-not-is_small.false) e
    ∙ ap (λ v. (cell_steps v (From from (GhostDrop c.args.e c.args.beat))).state) c.self.view_is) c.drop_copy.ensures.ok
