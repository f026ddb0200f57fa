use Rattle.std.proofs.Common.{sym, ap, ◌∙◌}
use Rattle.seam_node_steps.specs.Prelude.{renewed, renewed_if}
use Rattle.seam_cell.proofs.cell.Cell.newer_in.Goals as goal

pub returns-then-are_newer-clause-some : goal.returns-then-are_newer-clause-some
returns-then-are_newer-clause-some c = (c.in-Some.is, sym c.are_newer.ensures ∙ c.if-are_newer.true)

pub returns-else-are_newer-clause-none : goal.returns-else-are_newer-clause-none
returns-else-are_newer-clause-none c none =
    ap (renewed c.args.self.now) c.in-Some.is
    ∙ ap (λ d. renewed_if d c.args.self.now c.in-Some.bounds) (sym c.are_newer.ensures ∙ c.if-are_newer.false)

pub returns-in-None-clause-none : goal.returns-in-None-clause-none
returns-in-None-clause-none c none = ap (renewed c.args.self.now) c.in-None.is
