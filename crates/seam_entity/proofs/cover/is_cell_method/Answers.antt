use Rattle.std.proofs.Common.{sym, ap, ◌∙◌}
use Rattle.seam_entity.proofs.cover.is_cell_method.Goals as goal

pub returns-then-is_cell : goal.returns-then-is_cell
returns-then-is_cell c = λ same. record {
  number = c.in-Some.ensures.found.0;
  part = ap (λ m. m.part) (sym c.in-Some.ensures.found.1) ∙ c.is_cell.ensures c.if-is_cell.true;
  args =
      ap (λ m. m.args) (sym c.in-Some.ensures.found.1)
      ∙ (sym c.as_slice.ensures ∙ (c.are_same.ensures same ∙ c.as_slice-then-is_cell.ensures));
}
