use Rattle.std.proofs.Common.{◌≡◌, ◌==◌, false, sym, ap, ◌∙◌, arith}
use Rattle.std.proofs.lemmas.Bool.Decides.{nat_tests}
use Rattle.std.proofs.lemmas.Nat.Bits.{shr_and_one}
use Rattle.std.specs.FinSet as set
use Rattle.seam_tree.specs.Cells.{Cells}
use Rattle.seam_tree.specs.Inverse.{contains_marked}
use Rattle.seam_tree.proofs.Sets.{marked_past}
use Rattle.seam_tree.proofs.cell_set.CellSet.holds.Goals as goal

pub returns-then-cell-lt16-clause-value : goal.returns-then-cell-lt16-clause-value
returns-then-cell-lt16-clause-value c =
    ap (λ d. d == 1) (shr_and_one c.self.inside.digits c.args.cell)
    ∙ sym (contains_marked c.self.inside.digits c.self.invariant c.args.cell)
    ∙ ap (λ (s : Cells). set.contains s c.args.cell) c.self.view_is

pub returns-else-cell-lt16-clause-value : goal.returns-else-cell-lt16-clause-value
returns-else-cell-lt16-clause-value c =
    let outside : set.contains c.args.self.now c.args.cell ≡ false =
    ap (λ (s : Cells). set.contains s c.args.cell) (sym c.self.view_is)
    ∙ marked_past c.self.inside.digits c.self.invariant c.args.cell c.if-cell-lt16.false in
    grind (arith, nat_tests, outside)
