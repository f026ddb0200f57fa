use Rattle.std.proofs.Common.{sym, ◌∙◌}
use Rattle.seam_entity.specs.ReadyCalls.{item_passes}
use Rattle.seam_entity.specs.Executing.{fits_cell_part}
use Rattle.seam_entity.specs.Preparing.{node_with}
use Rattle.seam_entity.proofs.FitLemmas.{one_fails, one_passes}
use Rattle.seam_entity.proofs.fitting.holds_fitting.Goals as goal

pub returns-then-not-fits_cell_part : goal.returns-then-not-fits_cell_part
returns-then-not-fits_cell_part c me =
    one_fails (item_passes (fits_cell_part (node_with c.args.defs.now me c.args.settings.now) c.args.entity c.args.ty)) _ _ _ _
    (c.loop-call.invariant me) c.in-Some.ensures.steps
    (sym (c.fits_cell_part.ensures me) ∙ c.if-not-fits_cell_part.true)

pub loop-call-preserved : goal.loop-call-preserved
loop-call-preserved c me =
    one_passes (item_passes (fits_cell_part (node_with c.args.defs.now me c.args.settings.now) c.args.entity c.args.ty)) _ _ _ _
    (c.loop-call.invariant me) c.in-Some.ensures.steps
    (sym (c.fits_cell_part.ensures me) ∙ c.if-not-fits_cell_part.false)
