use Rattle.std.proofs.Common.{true, sym, ap, ◌∙◌}
use Rattle.std.specs.FinMap as table
use Rattle.seam_node_steps.specs.Prelude.{renewed_if}
use Rattle.seam_cell.proofs.LoadLemmas.{newer_fits}
use Rattle.seam_cell.proofs.cell.Cell.hear_bounds.Goals as goal

pub returns-then-not-are_newer-clause-state : goal.returns-then-not-are_newer-clause-state
returns-then-not-are_newer-clause-state c from =
    sym (ap (λ d. renewed_if d c.args.self.now c.args.bounds) (sym c.are_newer.ensures ∙ c.if-not-are_newer.true))

pub exchange-requires : goal.exchange-requires
exchange-requires c = newer_fits c.args.self.now c.args.bounds (sym c.are_newer.ensures ∙ c.if-not-are_newer.false)

pub returns-clause-state : goal.returns-clause-state
returns-clause-state c from =
    let b = c.args.bounds in
    let now = c.args.self.now in
    let all = c.in-Ok.ensures ∙ ap (λ d. table.keys d.reals) c.self.view_is in
    c.exchange.ensures.after
    ∙ ((λ i. record (renewed_if true now b) { survey = all i })
    ∙ sym (ap (λ d. renewed_if d now b) (sym c.are_newer.ensures ∙ c.if-not-are_newer.false)))
