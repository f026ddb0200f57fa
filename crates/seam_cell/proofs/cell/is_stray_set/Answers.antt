use Rattle.std.proofs.Common.{ap, sym, ◌∙◌, not}
use Rattle.seam_entity.specs.Numbers.{is_small}
use Rattle.seam_cell.proofs.CellLemmas.{third_decides}
use Rattle.seam_cell.proofs.cell.is_stray_set.Goals as goal

pub returns : goal.returns
returns c me =
    ap not (c.fits_copy.ensures me)
    ∙ third_decides (is_small c.args.beat) (is_small c.args.copy.now.version) _ (sym c.is_small.ensures ∙ c.if-not-is_small.false)
    (sym c.is_small-2.ensures ∙ c.if-not-is_small-2.false)
