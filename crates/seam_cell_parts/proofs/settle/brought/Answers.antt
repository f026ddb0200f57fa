use Rattle.std.proofs.Common.{ap, sym, ◌∙◌, Some}
use Rattle.seam_node_steps.specs.Prelude.{unless_first}
use Rattle.seam_cell_parts.proofs.SettleLemmas.{equal_test, other_test}
use Rattle.seam_cell_parts.proofs.settle.brought.Goals as goal

pub returns-then-bounds-eq0 : goal.returns-then-bounds-eq0
returns-then-bounds-eq0 c =
    let b = c.args.bounds.now in
    sym (ap (λ d. unless_first d b) (equal_test b.number 0 c.if-bounds-eq0.true))

pub returns : goal.returns
returns c =
    let b = c.args.bounds.now in
    ap Some c.in_ok-more.ensures ∙ sym (ap (λ d. unless_first d b) (other_test b.number 0 c.if-bounds-eq0.false))
