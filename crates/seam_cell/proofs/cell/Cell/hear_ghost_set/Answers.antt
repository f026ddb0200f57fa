use Rattle.std.proofs.Common.{ap, sym, ◌∙◌}
use Rattle.std.proofs.lemmas.Result.{on_ok_weaker}
use Rattle.seam_node_steps.specs.Prelude.{From, GhostSet, stray_ghost_set, cell_steps}
use Rattle.seam_cell.specs.contracts.cell.Cell.{the_view}
use Rattle.seam_cell.proofs.CellLemmas.{ghost_set_here, stray_set}
use Rattle.seam_cell_cases.proofs.Lookups.{none_there}
use Rattle.seam_cell.proofs.cell.Cell.hear_ghost_set.Goals as goal

pub returns-then-is_stray_set-clause-state : goal.returns-then-is_stray_set-clause-state
returns-then-is_stray_set-clause-state c from =
    stray_set c.args.self.now from c.args.e c.args.beat c.args.copy
    (ap (λ v. stray_ghost_set v.here c.args.beat c.args.copy) (sym c.self.view_is)
    ∙ (sym (c.is_stray_set.ensures c.self.inside.known.me) ∙ c.if-is_stray_set.true))

pub returns-clause-state : goal.returns-clause-state
returns-clause-state c from =
    on_ok_weaker c.set.result
    (λ e. ghost_set_here (the_view c.self.inside) from c.args.e c.args.beat c.set.new.self.ghosts c.args.copy
    (none_there c.get.result _ c.get.ensures.item (sym c.is_some.ensures ∙ c.if-is_some.false))
    (sym (c.is_stray_set.ensures c.self.inside.known.me) ∙ c.if-is_stray_set.false) e
    ∙ ap (λ v. (cell_steps v (From from (GhostSet c.args.e c.args.beat c.args.copy))).state) c.self.view_is) c.set.ensures.ok
