use Rattle.std.proofs.Common.{◌∙◌}
use Rattle.seam_cell_look.specs.Near.{was_newer}
use Rattle.seam_cell_look.proofs.looking.Sight.leaves_early.Goals as goal

pub returns : goal.returns
returns c = λ k. c.was_newer.ensures ∙ λ i. was_newer (c.shown.ensures i) (c.seen_of.ensures k i)
