use Rattle.std.proofs.Common.{ap, ◌∙◌}
use Rattle.std.specs.FinSet as cells
use Rattle.seam_tree.specs.Cells.{Cells}
use Rattle.seam_tree.proofs.Sets.{marked_set}
use Rattle.seam_tree.proofs.cell_set.CellSet.with.Goals as goal

pub returns : goal.returns
returns c =
    marked_set c.self.inside.digits c.self.invariant c.args.cell c.requires
    ∙ ap (λ (s : Cells). cells.insert s c.args.cell) c.self.view_is
